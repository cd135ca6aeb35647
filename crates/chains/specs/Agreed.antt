-- Two pages that differ only below a node that a relayout keeps, on rows that a layout left: all that `relayouts_agree` supposes, and that the pages do differ.
use Rattle.std.specs.Prelude.{◌≡◌, refl, Bool, true, List, [], ℕ, ◌+◌, ◌*◌, get_or, Float, Ok}
use Rattle.std.specs.Float.Ieee.{to_bits}
use Rattle.std.specs.Float.{binary32}
use Rattle.geometry.specs.Geometry.{zero_f}
use Rattle.style.specs.Style.{number_at}
use Rattle.steps.specs.Noes.{relayout_tested}
use Rattle.steps.specs.Results.{layout_result, relayout_result}
use Rattle.steps.proofs.Computed.{calls}
use Rattle.laws.specs.Below.{under, below_t, below_kept}
use Rattle.laws.specs.Tables.{below_at}
use Rattle.laws.specs.Examples.{free, probe_words, probe_was}
use Rattle.chains.specs.Pages.{low, tall, leaf_high, no_rows, no_marks}
use Rattle.chains.specs.Chain.{first, box}

-- which nodes lie below a kept one: the leaf alone
abbrev pub below_first : ℕ → Bool
below_first i = below_at probe_words tall first.rows first.marks box free i

pub below_leaf : below_first 2 ≡ true
unfolding calls first low tall free probe_words probe_was under below_t below_kept below_at
below_leaf = refl

-- both relayouts pass the tests
pub tall_passes : relayout_tested probe_words tall first.rows first.marks [] [] box free ≡ Ok tt
unfolding calls first low tall free probe_words probe_was
tall_passes = refl

pub high_passes : relayout_tested probe_words leaf_high first.rows first.marks [] [] box free ≡ Ok tt
unfolding calls first low tall leaf_high free probe_words probe_was
high_passes = refl

-- the pages differ: the leaf's height is 7 or 9, and a layout of each tells them apart
pub leaf_differs : (to_bits binary32 (number_at tall 2 26) ≡ 0x40e0_0000) × (to_bits binary32 (number_at leaf_high 2 26) ≡ 0x4110_0000)
unfolding calls low tall leaf_high probe_was
leaf_differs = (refl, refl)

-- the height of node i in rows
abbrev pub height_in : List Float → ℕ → ℕ
height_in rs i = to_bits binary32 (get_or rs (i * 16 + 3) zero_f)

pub layouts_differ : (height_in (layout_result probe_words tall no_rows no_marks [] [] free).rows 2 ≡ 0x40e0_0000) × (height_in (layout_result probe_words leaf_high no_rows no_marks [] [] free).rows 2 ≡ 0x4110_0000)
unfolding calls low tall leaf_high free probe_words probe_was
layouts_differ = (refl, refl)

-- and both relayouts leave the leaf's row as it came
pub relayouts_same : (height_in (relayout_result probe_words tall first.rows first.marks [] [] box free).rows 2 ≡ 0x40e0_0000) × (height_in (relayout_result probe_words leaf_high first.rows first.marks [] [] box free).rows 2 ≡ 0x40e0_0000)
unfolding calls first low tall leaf_high free probe_words probe_was
relayouts_same = (refl, refl)
