-- A page with a negative margin: three leaves of heights 50, 10 and 10, the second moved up by 60. Its rows are those that the last page of the table in crate facts comes out with.
use Rattle.std.specs.Prelude.{◌≡◌, refl, List, [], ◌∷◌, ◌++◌, map, ℕ, length, replicate, Float, Ok, Some, None}
use Rattle.std.specs.Float.Ieee.{of_bits, to_bits, add, lt, le, eq}
use Rattle.std.specs.Float.{binary32}
use Rattle.geometry.specs.Geometry.{zero_f}
use Rattle.limits.specs.Limits.{in_range}
use Rattle.util.specs.Math.{larger}
use Rattle.style.specs.Codes.{unit_of}
use Rattle.style.specs.Style.{word_at}
use Rattle.tree.specs.Table.{from, parse_f, parse_t}
use Rattle.edges.specs.Edges.{edges_t, shape_of, edge_at, outward, edge_by}
use Rattle.edges.specs.Tests.{bad_words, laid_tested}
use Rattle.steps.specs.Scan.{scan, how_many}
use Rattle.steps.specs.Noes.{bad_rows, holds, bad_tree, no_auto, bad_unit, bad_word, bad_safety, bad_baseline, bad_align, bad_codes, at_fault, and_then, no2, no7}
use Rattle.scroll.specs.Running.{running_from}
use Rattle.scroll.specs.Halving.{beyond, halved}
use Rattle.scroll.specs.Scroll.{is_finite, position, scroll_answer}
use Rattle.index.specs.Entries.{not_above, no_laid_leaf, bad_entry}
use Rattle.index.specs.Index.{top_at, bottom_at, index_of, uneven, index_misfit, by_entry, list_answer, after_tests, index_answer}

abbrev f : ℕ → Float
f b = of_bits binary32 b

-- a root of size 4 and three leaves; all that an index reads of them is their sizes and kinds
unfoldable pub words : List ℕ
words = 4 ∷ 0 ∷ 0x5500000 ∷ 0x55 ∷ 1 ∷ 1 ∷ 0x5500000 ∷ 0x55 ∷ 1 ∷ 1 ∷ 0x5501000 ∷ 0x55 ∷ 1 ∷ 1 ∷ 0x5500000 ∷ 0x55 ∷ []

-- all are laid
unfoldable pub marks : List ℕ
marks = 0 ∷ 1 ∷ 0 ∷ 1 ∷ 1 ∷ 1 ∷ 2 ∷ 1 ∷ []

-- y and height of each row: 0 and 10, 0 and 50, -10 and 10, 0 and 10
abbrev row : ℕ → ℕ → List Float
row y h = zero_f ∷ f y ∷ zero_f ∷ f h ∷ replicate 12 zero_f

unfoldable pub rows : List Float
rows = row 0 0x4120_0000 ++ row 0 0x4248_0000 ++ row 0xc120_0000 0x4120_0000 ++ row 0 0x4120_0000

abbrev list : List ℕ
list = 1 ∷ 2 ∷ 3 ∷ []

abbrev bits : List Float → List ℕ
bits l = map (to_bits binary32) l

-- an index of it is made
pub accepted : index_answer words rows marks list 3 3 3 ≡ Ok tt
unfolding words rows marks index_answer index_misfit uneven after_tests list_answer by_entry bad_entry not_above no_laid_leaf bad_words laid_tested bad_rows no2 no7 and_then at_fault bad_tree bad_codes bad_unit bad_word bad_safety bad_baseline bad_align no_auto holds scan how_many word_at unit_of
accepted = refl

-- tops 0, -10, 0; bottoms 50, 0, 10; running largest 50, 50, 50
pub edges_are : bits (index_of words rows list).tops ++ bits (index_of words rows list).bottoms ++ bits (index_of words rows list).running ≡ 0 ∷ 0xc120_0000 ∷ 0 ∷ 0x4248_0000 ∷ 0 ∷ 0x4120_0000 ∷ 0x4248_0000 ∷ 0x4248_0000 ∷ 0x4248_0000 ∷ []
unfolding words rows index_of top_at bottom_at edge_at shape_of edges_t parse_t parse_f from word_at running_from larger add lt of_bits to_bits
edges_are = refl

-- what halving finds in a slice for y, and what the scroll key answers
abbrev ends : List Float → ℕ → ℕ
ends l y = halved (beyond l (f y)) (length l) 0 (length l)

-- at y = 5 the first leaf whose bottom is beyond is the first of all; halving over the bottoms finds the third
-- at y = -5 too, and halving over the tops finds the third
pub searches_are : (scroll_answer (index_of words rows list).running (f 0x40a0_0000) ≡ Ok (Some 0)) × (ends (index_of words rows list).bottoms 0x40a0_0000 ≡ 2) × (scroll_answer (index_of words rows list).running (f 0xc0a0_0000) ≡ Ok (Some 0)) × (ends (index_of words rows list).tops 0xc0a0_0000 ≡ 2)
unfolding words rows index_of top_at bottom_at edge_at shape_of edges_t parse_t parse_f from word_at running_from larger add lt le eq in_range is_finite position scroll_answer halved of_bits
searches_are = (refl, refl, refl, refl)

-- at 50 there is none: a bottom of 50 is not beyond it
pub none_at_50 : scroll_answer (index_of words rows list).running (f 0x4248_0000) ≡ Ok None
unfolding words rows index_of top_at bottom_at edge_at shape_of edges_t parse_t parse_f from word_at running_from larger add lt le eq in_range is_finite position scroll_answer halved of_bits
none_at_50 = refl

-- going outward from each leaf gives the same tops
pub outward_too : bits (map (edge_by words rows 1) list) ≡ 0 ∷ 0xc120_0000 ∷ 0 ∷ []
unfolding words rows edge_by outward holds word_at add of_bits to_bits
outward_too = refl
