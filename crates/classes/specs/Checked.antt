-- Not vacuous: the checked pages (4) to (8) of document 01, from their tables, by the relation alone; all computed.
use Rattle.std.specs.Prelude.{◌≡◌, refl, [], ◌∷◌, map, ℕ, ◌*◌, replicate}
use Rattle.std.specs.Float.Ieee.{of_bits}
use Rattle.std.specs.Float.{binary32}
use Rattle.geometry.specs.Geometry.{zero_f}
use Rattle.tree.specs.Tree.{Tree}
use Rattle.steps.specs.Page.{nodes_in}
use Rattle.steps.specs.Question.{root_input}
use Rattle.steps.proofs.Computed.{steps}
use Rattle.facts.specs.Pages.{Checked, numbers_of, checked_question, between, page7, page8, px5, px10, px20, px30, minus}
use Rattle.classes.specs.Margins.{Box}
use Rattle.classes.specs.Engine.{Told, Through, Passed, Gap, pair_of, plain_gap, engine}
use Rattle.classes.specs.Real.{box_t}
use Rattle.classes.specs.OnTables.{boxes_on}

abbrev boxes_in : Checked → Tree Box
boxes_in p = boxes_on p.words (numbers_of p.numbers (replicate (28 * nodes_in p.words) zero_f)) (root_input (checked_question p))

abbrev at : ℕ → ℕ → ℕ × Told
at i b = (i, Gap (of_bits binary32 b))

-- (4) 20 and 30: 30; (5) 20 and -5: 15; (6) -20 and -5: -20
pub pages_4_to_6 :
    map (λ (p : Checked). engine (boxes_in p)) (between px20 px30 0 ∷ between px20 (minus px5) 0 ∷ between (minus px20) (minus px5) 0 ∷ [])
    ≡ (at 1 0 ∷ at 2 px30 ∷ []) ∷ (at 1 0 ∷ at 2 0x4170_0000 ∷ []) ∷ (at 1 0 ∷ at 2 (minus px20) ∷ []) ∷ []
unfolding steps root_input numbers_of checked_question between box_t pair_of plain_gap
pages_4_to_6 = refl

-- (7) a first child's margin of 10 is passed out of the top; with padding 1 above it is a gap of 10
pub page_7 : map (λ (p : Checked). engine (boxes_in p)) (page7 0 [] [] ∷ page7 0x3f80_0000 [] [] ∷ []) ≡ ((1, Passed) ∷ []) ∷ (at 1 px10 ∷ []) ∷ []
unfolding steps root_input numbers_of checked_question page7 box_t pair_of plain_gap
page_7 = refl

-- (8) an empty block with margins 10 and 25 is through; the box after it, with margin 5, has a gap of 25
pub page_8 : engine (boxes_in page8) ≡ at 1 0 ∷ (2, Through) ∷ at 3 0x41c8_0000 ∷ []
unfolding steps root_input numbers_of checked_question page8 box_t pair_of plain_gap
page_8 = refl
