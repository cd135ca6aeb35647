-- Percent heights on small pages, through the result of a layout, as one table that is computed.
use Rattle.std.specs.Prelude.{◌≡◌, refl, Bool, true, false, List, [], ◌∷◌, map, ℕ, ◌*◌, replicate, Option, None, Some, Float}
use Rattle.std.specs.Float.Ieee.{of_bits}
use Rattle.std.specs.Float.{binary32}
use Rattle.geometry.specs.Geometry.{zero_f}
use Rattle.length.specs.declared.AvailableSpace.TheVariants.{MaxContent}
use Rattle.steps.specs.Page.{nodes_in}
use Rattle.steps.specs.Question.{root_input}
use Rattle.steps.specs.Noes.{paper}
use Rattle.steps.specs.Results.{Reply, layout_result}
use Rattle.steps.specs.declared.Question.{Question}
use Rattle.steps.proofs.Computed.{calls}
use Rattle.facts.specs.Pages.{Given, given, numbers_of, read_at, block, leaf, height, px5, px10, px20, px30, px40, px50, px60, px100, minus}

-- a page: words, numbers that are not 0, the root's known height and whether it is definite, the row numbers read; the answer's number and place, then their bits
pub record HeightPage : Type 0 where
  pub words : List ℕ
  pub numbers : List Given
  pub known : Option Float
  pub definite : Bool
  pub read : List ℕ
  pub expected : List ℕ

-- the root is 100 wide
unfoldable pub height_question : HeightPage → Question
height_question p =
    record {
      known = record { width = Some (of_bits binary32 px100); height = p.known };
      parent = of_bits binary32 px100;
      definiteHeight = p.definite;
      available = MaxContent;
      collapseStart = false;
      collapseEnd = false;
    }

unfoldable pub read_reply : Reply → List ℕ → List ℕ
read_reply r ks = (paper r.answer).0 ∷ (paper r.answer).1 ∷ read_at r.rows ks

unfoldable pub height_result : HeightPage → List ℕ
height_result p =
    read_reply
    (layout_result p.words (numbers_of p.numbers (replicate (28 * nodes_in p.words) zero_f)) (replicate (16 * nodes_in p.words) zero_f) (replicate (2 * nodes_in p.words) 0) [] [] (root_input (height_question p)))
    p.read

-- ---- fields with a length of their own, beside those of Pages
abbrev width : ℕ
width = 0x1

abbrev part : ℕ
part = 0x8

abbrev min_and_max_height : ℕ
min_and_max_height = 0x440

abbrev half : ℕ
half = 0x3f00_0000

abbrev px2 : ℕ
px2 = 0x4000_0000

abbrev px80 : ℕ
px80 = 0x42a0_0000

-- ---- the pages: a root, a box, and in it a leaf of 10 whose height is a half
abbrev in_box : ℕ → List Given → List ℕ → List ℕ → HeightPage
in_box fields gs ks e =
    record {
      words = block 3 0 (block 2 fields (leaf part []));
      numbers = given 2 1 half ∷ given 2 26 px10 ∷ gs;
      known = None;
      definite = false;
      read = ks;
      expected = 0 ∷ 0 ∷ e;
    }

-- half of 80 is 40; number 14 of the leaf's row notes the 80
unfoldable pub of_pixels : HeightPage
of_pixels = in_box height (given 1 1 px80 ∷ []) (35 ∷ 46 ∷ []) (px40 ∷ px80 ∷ [])

-- in a box without a height it is auto, and the leaf has its own 10
unfoldable pub of_auto : HeightPage
of_auto = in_box 0 [] (35 ∷ 46 ∷ []) (px10 ∷ 0 ∷ [])

-- a min of 60 that only lifts the content is no basis; beside a max of 50 it decides, and half of it is 30
unfoldable pub of_min : HeightPage
of_min = in_box 0x40 (given 1 3 px60 ∷ []) (19 ∷ 35 ∷ []) (px60 ∷ px10 ∷ [])

unfoldable pub of_decided_min : HeightPage
of_decided_min = in_box min_and_max_height (given 1 3 px60 ∷ given 1 5 px50 ∷ []) (19 ∷ 35 ∷ []) (px60 ∷ px30 ∷ [])

-- a width of 80 at ratio 2 is a height of 40, and half of it is 20
unfoldable pub of_ratio : HeightPage
of_ratio = in_box width (given 1 0 px80 ∷ given 1 22 px2 ∷ []) (19 ∷ 35 ∷ []) (px40 ∷ px20 ∷ [])

-- half of half of 80 is 20
unfoldable pub nested_halves : HeightPage
nested_halves =
    record {
      words = block 4 0 (block 3 height (block 2 part (leaf part [])));
      numbers = given 1 1 px80 ∷ given 2 1 half ∷ given 3 1 half ∷ given 3 26 px10 ∷ [];
      known = None;
      definite = false;
      read = 35 ∷ 51 ∷ [];
      expected = 0 ∷ 0 ∷ px40 ∷ px20 ∷ [];
    }

-- the root's asked 100 is a basis only where the question calls it definite
unfoldable pub in_root : Bool → ℕ → HeightPage
in_root definite e =
    record {
      words = block 2 0 (leaf part []);
      numbers = given 1 1 half ∷ given 1 26 px10 ∷ [];
      known = Some (of_bits binary32 px100);
      definite = definite;
      read = 19 ∷ [];
      expected = 0 ∷ 0 ∷ e ∷ [];
    }

-- a top of a half moves a relative leaf by 40 in a box of 80; without a basis the word is the bottom's
abbrev moved : List ℕ
moved = 1 ∷ 0x11 ∷ 0x5500000 ∷ 0x1255 ∷ []

unfoldable pub top_of : ℕ → List Given → ℕ → HeightPage
top_of fields gs e =
    record {
      words = block 3 0 (block 2 fields moved);
      numbers = given 2 18 half ∷ given 2 20 px5 ∷ given 2 26 px10 ∷ gs;
      known = None;
      definite = false;
      read = 33 ∷ [];
      expected = 0 ∷ 0 ∷ e ∷ [];
    }

-- a ratio beside a fraction is refused by 3, at that node
unfoldable pub beside_ratio : HeightPage
beside_ratio =
    record { words = block 3 0 (block 2 height (leaf part [])); numbers = given 1 1 px80 ∷ given 2 1 half ∷ given 2 22 px2 ∷ []; known = None; definite = false; read = []; expected = 3 ∷ 2 ∷ [] }

unfoldable pub heights : List HeightPage
heights =
    of_pixels
    ∷ of_auto
    ∷ of_min
    ∷ of_decided_min
    ∷ of_ratio
    ∷ nested_halves
    ∷ in_root true px50
    ∷ in_root false px10
    ∷ top_of height (given 1 1 px80 ∷ []) px40
    ∷ top_of 0 [] (minus px5)
    ∷ beside_ratio
    ∷ []

-- every page of the table gives what it should
pub checked_heights : map height_result heights ≡ map (λ (p : HeightPage). p.expected) heights
unfolding calls root_input numbers_of read_at height_question read_reply height_result of_pixels of_auto of_min of_decided_min of_ratio nested_halves in_root top_of beside_ratio heights
checked_heights = refl
