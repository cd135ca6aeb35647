-- First baselines on small pages, through the result of a layout, as one table that is computed.
use Rattle.std.specs.Prelude.{◌≡◌, refl, false, List, [], ◌∷◌, map, ℕ, zero, suc, ◌+◌, ◌*◌, ◌/◌, ◌%◌, ◌^◌, get_or, replicate, Option, None, Some, Float}
use Rattle.std.specs.Float.Ieee.{of_bits, to_bits}
use Rattle.std.specs.Float.{binary32}
use Rattle.geometry.specs.Geometry.{zero_f}
use Rattle.length.specs.declared.AvailableSpace.TheVariants.{MaxContent}
use Rattle.steps.specs.Page.{nodes_in}
use Rattle.steps.specs.Question.{root_input}
use Rattle.steps.specs.Noes.{paper}
use Rattle.steps.specs.Results.{Reply, layout_result}
use Rattle.steps.specs.declared.Question.{Question}
use Rattle.steps.proofs.Computed.{calls}
use Rattle.facts.specs.Pages.{Given, given, numbers_of, minus}

-- a page: words, numbers that are not 0, the root's known height; expected are the answer's number and place, then of each node place y, number 15 and bit 9
pub record LinePage : Type 0 where
  pub words : List ℕ
  pub numbers : List Given
  pub known : Option Float
  pub expected : List ℕ

abbrev px100 : ℕ
px100 = 0x42c8_0000

abbrev px5 : ℕ
px5 = 0x40a0_0000

abbrev px7 : ℕ
px7 = 0x40e0_0000

abbrev px8 : ℕ
px8 = 0x4100_0000

abbrev px10 : ℕ
px10 = 0x4120_0000

abbrev px12 : ℕ
px12 = 0x4140_0000

abbrev px13 : ℕ
px13 = 0x4150_0000

abbrev px15 : ℕ
px15 = 0x4170_0000

abbrev px20 : ℕ
px20 = 0x41a0_0000

abbrev px25 : ℕ
px25 = 0x41c8_0000

abbrev px40 : ℕ
px40 = 0x4220_0000

abbrev px55 : ℕ
px55 = 0x425c_0000

abbrev px60 : ℕ
px60 = 0x4270_0000

-- the root is 100 wide
unfoldable pub line_question : LinePage → Question
line_question p =
    record {
      known = record { width = Some (of_bits binary32 px100); height = p.known };
      parent = of_bits binary32 px100;
      definiteHeight = false;
      available = MaxContent;
      collapseStart = false;
      collapseEnd = false;
    }

-- of the next n nodes from i on: place y, number 15, bit 9
unfoldable pub lines_at : Reply → ℕ → ℕ → List ℕ
lines_at r i zero = []
lines_at r i (suc n) =
    to_bits binary32 (get_or r.rows (16 * i + 1) zero_f) ∷ to_bits binary32 (get_or r.rows (16 * i + 15) zero_f) ∷ (get_or r.marks (2 * i + 1) 0 / 2 ^ 9 % 2) ∷ lines_at r (i + 1) n

unfoldable pub read_lines : Reply → ℕ → List ℕ
read_lines r n = (paper r.answer).0 ∷ (paper r.answer).1 ∷ lines_at r 0 n

-- one record is lent
unfoldable pub line_result : LinePage → List ℕ
line_result p =
    let n = nodes_in p.words in
    read_lines
    (layout_result p.words (numbers_of p.numbers (replicate (28 * n) zero_f)) (replicate (16 * n) zero_f) (replicate (2 * n) 0) (0 ∷ 0 ∷ []) (zero_f ∷ zero_f ∷ zero_f ∷ []) (root_input (line_question p)))
    n

-- ---- nodes: no length of their own but padding and border, which are 0
abbrev box : ℕ → ℕ → List ℕ → List ℕ
box n style rest = n ∷ style ∷ 0x5500000 ∷ 0x55 ∷ rest

-- a leaf with a baseline, and what else its style says
abbrev line : ℕ → List ℕ → List ℕ
line style rest = box 1 (2 ^ 16 + 1 + style) rest

-- a leaf's height and its baseline
abbrev high : ℕ → ℕ → ℕ → List Given → List Given
high i h b gs = given i 26 h ∷ given i 27 b ∷ gs

-- The amount, 20 high, has its baseline at 15; the unit, 10 high, at 8. Beside it by its margins, top -13 and left 60, the unit stands at 7: both lines are at 15, and so is the page's.
unfoldable pub two_columns : LinePage
two_columns =
    record {
      words = box 3 0 (line 0 (1 ∷ (2 ^ 16 + 1) ∷ (0x5500000 + 0x41000) ∷ 0x55 ∷ []));
      numbers = high 1 px20 px15 (high 2 px10 px8 (given 2 6 (minus px13) ∷ given 2 9 px60 ∷ []));
      known = None;
      expected = 0 ∷ 0 ∷ 0 ∷ px15 ∷ 1 ∷ 0 ∷ px15 ∷ 1 ∷ px7 ∷ px8 ∷ 1 ∷ [];
    }

-- a contained box, 10 high, has none though its leaf has: the page's is that of the leaf below it, at 10
unfoldable pub contained_box : LinePage
contained_box =
    record {
      words = box 4 0 (box 2 (2 ^ 12) (line 0 (line 0 [])));
      numbers = high 2 px10 px5 (high 3 px20 px15 []);
      known = None;
      expected = 0 ∷ 0 ∷ 0 ∷ px25 ∷ 1 ∷ 0 ∷ 0 ∷ 0 ∷ 0 ∷ px5 ∷ 1 ∷ px10 ∷ px15 ∷ 1 ∷ [];
    }

-- a contained leaf has none, and then the page has none
unfoldable pub contained_leaf : LinePage
contained_leaf =
    record { words = box 2 0 (line (2 ^ 12) []); numbers = high 1 px20 px15 []; known = None; expected = 0 ∷ 0 ∷ 0 ∷ 0 ∷ 0 ∷ 0 ∷ 0 ∷ 0 ∷ [] }

-- a page 100 high with its leaf, 20 high, in the middle: the shift of 40 moves the line at 15 to 55
unfoldable pub centered : LinePage
centered =
    record {
      words = box 2 (2 * 2 ^ 10) (line 0 []);
      numbers = high 1 px20 px15 [];
      known = Some (of_bits binary32 px100);
      expected = 0 ∷ 0 ∷ 0 ∷ px55 ∷ 1 ∷ px40 ∷ px15 ∷ 1 ∷ [];
    }

-- a relative leaf that is moved down by 5: its offset counts
unfoldable pub relative : LinePage
relative =
    record {
      words = box 2 0 (1 ∷ (2 ^ 16 + 1 + 2 ^ 4) ∷ 0x5500000 ∷ 0x155 ∷ []);
      numbers = high 1 px20 px15 (given 1 18 px5 ∷ []);
      known = None;
      expected = 0 ∷ 0 ∷ 0 ∷ px20 ∷ 1 ∷ px5 ∷ px15 ∷ 1 ∷ [];
    }

-- a hidden box, a leaf out of the flow and a leaf without a baseline, 10 high, are passed over
unfoldable pub passed_over : LinePage
passed_over =
    record {
      words = box 6 0 (box 2 2 (line 0 (line (2 * 2 ^ 4) (box 1 1 (line 0 [])))));
      numbers = high 2 px10 px5 (high 3 px10 px5 (given 4 26 px10 ∷ high 5 px20 px15 []));
      known = None;
      expected = 0 ∷ 1 ∷ 0 ∷ px25 ∷ 1 ∷ 0 ∷ 0 ∷ 0 ∷ 0 ∷ 0 ∷ 0 ∷ 0 ∷ 0 ∷ 0 ∷ 0 ∷ 0 ∷ 0 ∷ px10 ∷ px15 ∷ 1 ∷ [];
    }

-- a baseline below its leaf is refused by 4, bit 16 on a block by 3
unfoldable pub too_low : LinePage
too_low = record { words = box 2 0 (line 0 []); numbers = high 1 px12 px13 []; known = None; expected = 4 ∷ 1 ∷ 0 ∷ 0 ∷ 0 ∷ 0 ∷ 0 ∷ 0 ∷ [] }

unfoldable pub on_block : LinePage
on_block = record { words = box 2 0 (box 1 (2 ^ 16) []); numbers = []; known = None; expected = 3 ∷ 1 ∷ 0 ∷ 0 ∷ 0 ∷ 0 ∷ 0 ∷ 0 ∷ [] }

unfoldable pub lines : List LinePage
lines = two_columns ∷ contained_box ∷ contained_leaf ∷ centered ∷ relative ∷ passed_over ∷ too_low ∷ on_block ∷ []

-- every page of the table gives what it should
pub checked_lines : map line_result lines ≡ map (λ (p : LinePage). p.expected) lines
unfolding calls root_input numbers_of line_question lines_at read_lines line_result two_columns contained_box contained_leaf centered relative passed_over too_low on_block lines
checked_lines = refl
