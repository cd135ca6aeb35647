-- The checked pages (1) to (8) of document 01, through the results of the public calls, as one table that is computed.
use Rattle.std.specs.Prelude.{◌≡◌, refl, Bool, true, false, List, [], ◌∷◌, map, ℕ, ◌+◌, ◌*◌, get_or, set, replicate, Float, Option, None, Some}
use Rattle.std.specs.Float.Ieee.{of_bits, to_bits}
use Rattle.std.specs.Float.{binary32}
use Rattle.geometry.specs.Geometry.{zero_f}
use Rattle.geometry.specs.declared.Size.{Size}
use Rattle.style.specs.Style.{plane_of, number_place}
use Rattle.length.specs.declared.AvailableSpace.TheVariants.{MaxContent}
use Rattle.steps.specs.Page.{nodes_in}
use Rattle.steps.specs.Question.{root_input}
use Rattle.steps.specs.Noes.{paper}
use Rattle.steps.specs.Results.{Reply, layout_result, size_result, size_paper}
use Rattle.steps.specs.declared.Question.{Question}
use Rattle.steps.specs.declared.RequestedAxis.{RequestedAxis}
use Rattle.steps.specs.declared.RequestedAxis.TheVariants.{Horizontal, Both}
use Rattle.steps.proofs.Computed.{calls}

-- a number of a page that is not 0: node, field, bits
pub record Given : Type 0 where
  pub node : ℕ
  pub field : ℕ
  pub bits : ℕ

abbrev pub given : ℕ → ℕ → ℕ → Given
given i f b = record { node = i; field = f; bits = b }

-- what is asked of a page: a layout, and the numbers of its rows at some places; or its size
pub data Asked : Type 0 where
  rows : List ℕ → Asked
  size : RequestedAxis → Asked

-- one checked page: the nodes' words, the numbers that are not 0, the known width, both flags, what is asked, and the bits expected
pub record Checked : Type 0 where
  pub words : List ℕ
  pub numbers : List Given
  pub parent : ℕ
  pub width : Option Float
  pub flags : Bool
  pub asked : Asked
  pub expected : List ℕ

unfoldable pub numbers_of : List Given → List Float → List Float
numbers_of [] xs = xs
numbers_of (g ∷ gs) xs = numbers_of gs (set xs (number_place (plane_of xs) g.node g.field) (of_bits binary32 g.bits))

unfoldable pub checked_question : Checked → Question
checked_question p =
    record {
      known = record { width = p.width; height = None };
      parent = of_bits binary32 p.parent;
      definiteHeight = false;
      available = MaxContent;
      collapseStart = p.flags;
      collapseEnd = p.flags;
    }

unfoldable pub read_at : List Float → List ℕ → List ℕ
read_at l [] = []
read_at l (k ∷ ks) = to_bits binary32 (get_or l k zero_f) ∷ read_at l ks

-- the answer's number, then what is read
unfoldable pub read_rows : Reply → List ℕ → List ℕ
read_rows r ks = (paper r.answer).0 ∷ read_at r.rows ks

unfoldable pub read_size : (ℕ × ℕ) × Size Float → List ℕ
read_size s = s.0.0 ∷ to_bits binary32 s.1.width ∷ to_bits binary32 s.1.height ∷ []

-- tables of the right lengths, rows and marks of zeros, no record
unfoldable pub answer_to : Asked → List ℕ → List Float → Question → List ℕ
answer_to (rows ks) ws xs q = read_rows (layout_result ws xs (replicate (16 * nodes_in ws) zero_f) (replicate (2 * nodes_in ws) 0) [] [] (root_input q)) ks
answer_to (size a) ws xs q = read_size (size_paper (size_result ws xs (root_input q) a))

unfoldable pub result_of : Checked → List ℕ
result_of p = answer_to p.asked p.words (numbers_of p.numbers (replicate (28 * nodes_in p.words) zero_f)) (checked_question p)

-- ---- nodes: padding and border are pixels; to that come the fields with a length of their own
abbrev pub height : ℕ
height = 0x4

abbrev min_and_max_width : ℕ
min_and_max_width = 0x110

abbrev top_margin : ℕ
top_margin = 0x1000

abbrev bottom_margin : ℕ
bottom_margin = 0x10000

abbrev pub block : ℕ → ℕ → List ℕ → List ℕ
block n fields rest = n ∷ 0 ∷ (0x5500000 + fields) ∷ 0x55 ∷ rest

-- ---- pixels, as bits
abbrev px1 : ℕ
px1 = 0x3f80_0000

abbrev pub px5 : ℕ
px5 = 0x40a0_0000

abbrev pub px10 : ℕ
px10 = 0x4120_0000

abbrev px11 : ℕ
px11 = 0x4130_0000

abbrev px15 : ℕ
px15 = 0x4170_0000

abbrev pub px20 : ℕ
px20 = 0x41a0_0000

abbrev px25 : ℕ
px25 = 0x41c8_0000

abbrev pub px30 : ℕ
px30 = 0x41f0_0000

abbrev px35 : ℕ
px35 = 0x420c_0000

abbrev pub px40 : ℕ
px40 = 0x4220_0000

abbrev pub px50 : ℕ
px50 = 0x4248_0000

abbrev pub px60 : ℕ
px60 = 0x4270_0000

abbrev pub px100 : ℕ
px100 = 0x42c8_0000

abbrev pub px200 : ℕ
px200 = 0x4348_0000

-- below zero
abbrev pub minus : ℕ → ℕ
minus b = 0x8000_0000 + b

abbrev hundred : Option Float
hundred = Some (of_bits binary32 px100)

-- ---- the pages
-- (1) min 100, max 50: 100, whatever the parent width
unfoldable pub page1 : Checked
page1 = record { words = block 1 min_and_max_width []; numbers = given 0 2 px100 ∷ given 0 4 px50 ∷ []; parent = px200; width = None; flags = false; asked = rows (2 ∷ []); expected = 0 ∷ px100 ∷ [] }

-- (2) width-only, width 100: (100, 0), though the box is 15 high
unfoldable pub page2 : Checked
page2 = record { words = block 1 0 []; numbers = given 0 10 px15 ∷ []; parent = px100; width = hundred; flags = false; asked = size Horizontal; expected = 0 ∷ px100 ∷ 0 ∷ [] }

-- (3) ratio 10, padding 15 and 15: asked and laid, 100x30
unfoldable pub page3 : Asked → List ℕ → Checked
page3 a e = record { words = block 1 0 []; numbers = given 0 22 px10 ∷ given 0 10 px15 ∷ given 0 12 px15 ∷ []; parent = px100; width = hundred; flags = false; asked = a; expected = e }

-- (4) to (6) two boxes of 10, a bottom and a top margin between them: where the second stands
unfoldable pub between : ℕ → ℕ → ℕ → Checked
between bottom top y =
    record {
      words = block 3 0 (block 1 (height + bottom_margin) (block 1 (height + top_margin) []));
      numbers = given 1 1 px10 ∷ given 1 8 bottom ∷ given 2 1 px10 ∷ given 2 6 top ∷ [];
      parent = px100;
      width = hundred;
      flags = false;
      asked = rows (33 ∷ []);
      expected = 0 ∷ y ∷ [];
    }

-- (7) a first child of 10 with margin 10, flags true; the root's top padding, what is read, what is expected
unfoldable pub page7 : ℕ → List ℕ → List ℕ → Checked
page7 padding ks e =
    record {
      words = block 2 0 (block 1 (height + top_margin) []);
      numbers = given 0 10 padding ∷ given 1 1 px10 ∷ given 1 6 px10 ∷ [];
      parent = px100;
      width = hundred;
      flags = true;
      asked = rows ks;
      expected = e;
    }

-- (8) a box 10 high, an empty block with margins 10 and 25, a box with margin 5: y 20 and 35
unfoldable pub page8 : Checked
page8 =
    record {
      words = block 4 0 (block 1 height (block 1 (top_margin + bottom_margin) (block 1 (height + top_margin) [])));
      numbers = given 1 1 px10 ∷ given 2 6 px10 ∷ given 2 8 px25 ∷ given 3 1 px10 ∷ given 3 6 px5 ∷ [];
      parent = px100;
      width = hundred;
      flags = false;
      asked = rows (33 ∷ 49 ∷ []);
      expected = 0 ∷ px20 ∷ px35 ∷ [];
    }

-- not of 01: three leaves of which the second has a margin of -60, so that tops are not sorted (crate index_facts); y and height of each row
abbrev pub leaf : ℕ → List ℕ → List ℕ
leaf fields rest = 1 ∷ 1 ∷ (0x5500000 + fields) ∷ 0x55 ∷ rest

unfoldable pub unsorted : Checked
unsorted =
    record {
      words = block 4 0 (leaf 0 (leaf top_margin (leaf 0 [])));
      numbers = given 1 26 px50 ∷ given 2 6 (minus px60) ∷ given 2 26 px10 ∷ given 3 26 px10 ∷ [];
      parent = px100;
      width = hundred;
      flags = false;
      asked = rows (1 ∷ 3 ∷ 17 ∷ 19 ∷ 33 ∷ 35 ∷ 49 ∷ 51 ∷ []);
      expected = 0 ∷ 0 ∷ px10 ∷ 0 ∷ px50 ∷ minus px10 ∷ px10 ∷ 0 ∷ px10 ∷ [];
    }

unfoldable pub table : List Checked
table =
    page1
    ∷ page2
    ∷ page3 (size Both) (0 ∷ px100 ∷ px30 ∷ [])
    ∷ page3 (rows (2 ∷ 3 ∷ [])) (0 ∷ px100 ∷ px30 ∷ [])
    ∷ between px20 px30 px40
    ∷ between px20 (minus px5) px25
    ∷ between (minus px20) (minus px5) (minus px10)
    ∷ page7 0 (17 ∷ 4 ∷ 5 ∷ []) (0 ∷ 0 ∷ px10 ∷ 0 ∷ [])
    ∷ page7 px1 (17 ∷ []) (0 ∷ px11 ∷ [])
    ∷ page8
    ∷ unsorted
    ∷ []

-- every page of the table gives what it should
pub checked_pages : map result_of table ≡ map (λ (p : Checked). p.expected) table
unfolding calls root_input numbers_of checked_question read_at read_rows read_size answer_to result_of page1 page2 page3 between page7 page8 unsorted table
checked_pages = refl
