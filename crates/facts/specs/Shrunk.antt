-- A half-width box in a page that shrinks to fit, through the result of a layout, computed: as auto for the page's width, then a half of the width found.
use Rattle.std.specs.Prelude.{◌≡◌, refl, false, List, [], ◌∷◌, ℕ, ◌*◌, replicate, Float, None}
use Rattle.std.specs.Float.Ieee.{of_bits}
use Rattle.std.specs.Float.{binary32}
use Rattle.geometry.specs.Geometry.{zero_f}
use Rattle.length.specs.declared.AvailableSpace.TheVariants.{Definite}
use Rattle.steps.specs.Page.{nodes_in}
use Rattle.steps.specs.Question.{root_input}
use Rattle.steps.specs.Results.{layout_result}
use Rattle.steps.specs.declared.Question.{Question}
use Rattle.steps.proofs.Computed.{calls}
use Rattle.facts.specs.Pages.{given, numbers_of, read_at, read_rows, block, leaf, px10, px40, px200}

-- no width is known, 200 is available
unfoldable pub shrink_question : Question
shrink_question =
    record { known = record { width = None; height = None }; parent = of_bits binary32 px200; definiteHeight = false; available = Definite (of_bits binary32 px200); collapseStart = false; collapseEnd = false }

abbrev half_wide : ℕ
half_wide = 0x2

abbrev half : ℕ
half = 0x3f00_0000

abbrev px80 : ℕ
px80 = 0x42a0_0000

-- a root, in it a box half as wide, in that a leaf of 80
abbrev shrunk_words : List ℕ
shrunk_words = block 3 0 (block 2 half_wide (leaf 0 []))

abbrev shrunk_numbers : List Float
shrunk_numbers = numbers_of (given 1 0 half ∷ given 2 24 px80 ∷ given 2 25 px80 ∷ given 2 26 px10 ∷ []) (replicate (28 * nodes_in shrunk_words) zero_f)

-- F finds 80, the leaf's; J gives the box 40, asked and answered, and the leaf 40 in it
pub half_of_the_found : read_rows (layout_result shrunk_words shrunk_numbers (replicate (16 * nodes_in shrunk_words) zero_f) (replicate (2 * nodes_in shrunk_words) 0) [] [] (root_input shrink_question)) (2 ∷ 24 ∷ 18 ∷ 34 ∷ []) ≡ 0 ∷ px80 ∷ px40 ∷ px40 ∷ px40 ∷ []
unfolding calls root_input numbers_of read_at read_rows shrink_question
half_of_the_found = refl
