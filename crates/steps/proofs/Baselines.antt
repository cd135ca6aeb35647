-- Computed of first baselines: the first one found counts, a place and a shift move it, containment suppresses it; which number and bit a row has for it.
use Rattle.std.specs.Prelude.{Option, None, Some}
use Rattle.std.specs.Option.{option_or}
use mathlib.Core.Path.{◌≡◌, refl}
use mathlib.Core.Bool.{Bool, true, false}
use mathlib.Core.List.{List, [], ◌∷◌, map}
use Prim.Native.Nat.{ℕ, ◌/◌, ◌%◌, ◌^◌}
use lib.Ieee.{Float, of_bits, to_bits, add, binary32}
use Rattle.geometry.specs.Geometry.{zero_f}
use Rattle.util.specs.Maybe.{or_zero, add_opt}
use Rattle.length.specs.declared.AvailableSpace.TheVariants.{MaxContent}
use Rattle.margin.specs.Margin.{no_margins}
use Rattle.style.specs.Codes.{flag_at}
use Rattle.style.specs.Style.{word_at, style_at}
use Rattle.style.specs.declared.Style.{Style}
use Rattle.steps.specs.Baseline.{at_place, baseline_past, shifted, block_baseline}
use Rattle.steps.specs.Row.{Row, no_probe, laid_row, output_in}
use Rattle.steps.specs.declared.LayoutInput.{LayoutInput}

-- 1, 2 and 4
abbrev one : Float
one = of_bits binary32 0x3f80_0000

abbrev two : Float
two = of_bits binary32 0x4000_0000

abbrev four : Float
four = of_bits binary32 0x4080_0000

abbrev shown : Option Float → List ℕ
shown None = []
shown (Some x) = to_bits binary32 x ∷ []

-- none and none; none, then 1 in a child at 2; 4 before that
pub first_found : map shown (baseline_past None two None ∷ baseline_past None two (Some one) ∷ baseline_past (Some four) two (Some one) ∷ []) ≡ [] ∷ (0x4040_0000 ∷ []) ∷ (0x4080_0000 ∷ []) ∷ []
unfolding baseline_past at_place add of_bits to_bits
first_found = refl

-- a node with bit 12, and one without
abbrev plain_style : Style
plain_style = style_at (1 ∷ 0 ∷ 0 ∷ 0 ∷ []) 0 [] 0

abbrev contained_style : Style
contained_style = style_at (1 ∷ 4096 ∷ 0 ∷ 0 ∷ []) 0 [] 0

-- 1 without a shift, with one of 4, none with one of 4; 1 in a contained box
pub passed_out_lem : map shown (block_baseline plain_style (Some one) None ∷ block_baseline plain_style (Some one) (Some four) ∷ block_baseline plain_style None (Some four) ∷ block_baseline contained_style (Some one) None ∷ [])
    ≡ (0x3f80_0000 ∷ []) ∷ (0x40a0_0000 ∷ []) ∷ [] ∷ [] ∷ []
unfolding block_baseline shifted add_opt style_at word_at add of_bits to_bits
passed_out_lem = refl

-- the row of an answer with this baseline: bit 9, number 15, and the answer that is read back
abbrev row_with : Option Float → Row
row_with b =
    laid_row
    (record { known = record { width = None; height = None }; parent = None; basis = None; definiteHeight = false; available = MaxContent; collapseStart = false; collapseEnd = false; nested = true })
    (record { size = record { width = zero_f; height = zero_f }; top = no_margins; bottom = no_margins; through = false; baseline = b })
    no_probe

pub noted_bits : map (λ (b : Option Float). (row_with b).bits) (None ∷ Some zero_f ∷ Some two ∷ []) ≡ 1 ∷ 513 ∷ 513 ∷ []
unfolding laid_row no_probe
noted_bits = refl

pub read_back_lem : map (λ (b : Option Float). shown (output_in (row_with b)).baseline) (None ∷ Some zero_f ∷ Some two ∷ []) ≡ [] ∷ (0 ∷ []) ∷ (0x4000_0000 ∷ []) ∷ []
unfolding laid_row no_probe output_in of_bits to_bits
read_back_lem = refl
