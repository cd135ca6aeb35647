-- Not vacuous: two small pages, computed. Rows that no layout would leave show what was taken from a row and what was not.
use Rattle.std.specs.Prelude.{◌≡◌, refl, true, false, List, [], ◌∷◌, map, ℕ, set, replicate, Float, None, Some}
use Rattle.std.specs.Float.Ieee.{of_bits, to_bits}
use Rattle.std.specs.Float.{binary32}
use Rattle.length.specs.declared.AvailableSpace.TheVariants.{MaxContent}
use Rattle.style.specs.Style.{number_place}
use Rattle.tree.specs.Tree.{Tree, node, none, more}
use Rattle.tree.specs.Table.{from}
use Rattle.steps.specs.Page.{Cell, page_of, cells_of}
use Rattle.steps.proofs.Computed.{steps}
use Rattle.steps.specs.Kept.{kept}
use Rattle.steps.specs.Layout.{relaid, fresh}
use Rattle.steps.specs.Results.{rows_out, marks_out}
use Rattle.steps.specs.declared.LayoutInput.{LayoutInput}
use Rattle.laws.specs.Below.{under, below_t, below_kept}

abbrev pub floats : List ℕ → List Float
floats l = map (of_bits binary32) l

abbrev pub bits_of : List Float → List ℕ
bits_of l = map (to_bits binary32) l

-- A root of width 100 over a box A and a block B with a box C. A grows from 10 to 20, so B moves down; B is kept.
unfoldable pub wide : LayoutInput
wide = record { known = record { width = Some (of_bits binary32 0x42c8_0000); height = None }; parent = Some (of_bits binary32 0x42c8_0000); basis = None; definiteHeight = false; available = MaxContent; collapseStart = false; collapseEnd = false; nested = false }

unfoldable pub stack_words : List ℕ
stack_words = 4 ∷ 0 ∷ 0x5500000 ∷ 0x55 ∷ 1 ∷ 0 ∷ 0x5500004 ∷ 0x55 ∷ 2 ∷ 0 ∷ 0x5500000 ∷ 0x55 ∷ 1 ∷ 0 ∷ 0x5500004 ∷ 0x55 ∷ []

unfoldable pub stack_was : List ℕ
stack_was = set (set (replicate 112 0) (number_place 4 1 1) 0x41200000) (number_place 4 3 1) 0x40a00000

unfoldable pub stack_now : List ℕ
stack_now = set stack_was (number_place 4 1 1) 0x41a00000

-- the rows that the layout leaves, and the same with a width in C's row that nothing would give
unfoldable pub stack_rows : List ℕ
stack_rows = 0 ∷ 0 ∷ 0x42c80000 ∷ 0x41700000 ∷ 0 ∷ 0 ∷ 0 ∷ 0 ∷ 0x42c80000 ∷ 0 ∷ 0x42c80000 ∷ 0 ∷ 0 ∷ 0 ∷ 0 ∷ 0 ∷ 0 ∷ 0 ∷ 0x42c80000 ∷ 0x41200000 ∷ 0 ∷ 0 ∷ 0 ∷ 0 ∷ 0x42c80000 ∷ 0x41200000 ∷ 0x42c80000 ∷ 0 ∷ 0 ∷ 0 ∷ 0 ∷ 0 ∷ 0 ∷ 0x41200000 ∷ 0x42c80000 ∷ 0x40a00000 ∷ 0 ∷ 0 ∷ 0 ∷ 0 ∷ 0x42c80000 ∷ 0 ∷ 0x42c80000 ∷ 0 ∷ 0 ∷ 0 ∷ 0 ∷ 0 ∷ 0 ∷ 0 ∷ 0x42c80000 ∷ 0x40a00000 ∷ 0 ∷ 0 ∷ 0 ∷ 0 ∷ 0x42c80000 ∷ 0x40a00000 ∷ 0x42c80000 ∷ 0 ∷ 0 ∷ 0 ∷ 0 ∷ 0 ∷ []

unfoldable pub stack_odd : List ℕ
stack_odd = set stack_rows 50 0x429a0000

unfoldable pub stack_marks : List ℕ
stack_marks = 0 ∷ 1 ∷ 0 ∷ 9 ∷ 1 ∷ 1 ∷ 0 ∷ 9 ∷ []

pub stack_laid : (bits_of (rows_out (fresh (page_of stack_words (floats stack_was) []) wide).rows) ≡ stack_rows) × (marks_out (fresh (page_of stack_words (floats stack_was) []) wide).rows ≡ stack_marks)
unfolding steps wide stack_words stack_was stack_rows stack_marks
stack_laid = (refl, refl)

abbrev pub stack_cells : Tree Cell
stack_cells = cells_of stack_words (floats stack_now) (floats stack_odd) stack_marks (1 ∷ [])

-- C alone lies below a kept node
pub stack_kept : below_kept stack_cells wide ≡ node false (more (node false none) (more (node false (more (node true none) none)) none))
unfolding steps wide stack_words stack_was stack_now stack_rows stack_odd stack_marks under below_t below_kept
stack_kept = refl

-- B is at 20 now, and C's row came through as it was
pub stack_again : (bits_of (rows_out (relaid stack_cells wide).rows) ≡ 0 ∷ 0 ∷ 0x42c80000 ∷ 0x41c80000 ∷ 0 ∷ 0 ∷ 0 ∷ 0 ∷ 0x42c80000 ∷ 0 ∷ 0x42c80000 ∷ 0 ∷ 0 ∷ 0 ∷ 0 ∷ 0 ∷ 0 ∷ 0 ∷ 0x42c80000 ∷ 0x41a00000 ∷ 0 ∷ 0 ∷ 0 ∷ 0 ∷ 0x42c80000 ∷ 0x41a00000 ∷ 0x42c80000 ∷ 0 ∷ 0 ∷ 0 ∷ 0 ∷ 0 ∷ 0 ∷ 0x41a00000 ∷ 0x42c80000 ∷ 0x40a00000 ∷ 0 ∷ 0 ∷ 0 ∷ 0 ∷ 0x42c80000 ∷ 0 ∷ 0x42c80000 ∷ 0 ∷ 0 ∷ 0 ∷ 0 ∷ 0 ∷ 0 ∷ 0 ∷ 0x429a0000 ∷ 0x40a00000 ∷ 0 ∷ 0 ∷ 0 ∷ 0 ∷ 0x42c80000 ∷ 0x40a00000 ∷ 0x42c80000 ∷ 0 ∷ 0 ∷ 0 ∷ 0 ∷ 0 ∷ []) × (marks_out (relaid stack_cells wide).rows ≡ stack_marks)
unfolding steps wide stack_words stack_was stack_now stack_rows stack_odd stack_marks
stack_again = (refl, refl)

-- A root of unknown width over a block A with a leaf of 30 to 40, and a box of width 60. A is probed: 40. The box grows to 80.
unfoldable pub free : LayoutInput
free = record { known = record { width = None; height = None }; parent = Some (of_bits binary32 0x42c8_0000); basis = None; definiteHeight = false; available = MaxContent; collapseStart = false; collapseEnd = false; nested = false }

unfoldable pub probe_words : List ℕ
probe_words = 4 ∷ 0 ∷ 0x5500000 ∷ 0x55 ∷ 2 ∷ 0 ∷ 0x5500000 ∷ 0x55 ∷ 1 ∷ 1 ∷ 0x5500000 ∷ 0x55 ∷ 1 ∷ 0 ∷ 0x5500005 ∷ 0x55 ∷ []

unfoldable pub probe_was : List ℕ
probe_was = set (set (set (set (set (replicate 112 0) (number_place 4 2 24) 0x41f00000) (number_place 4 2 25) 0x42200000) (number_place 4 2 26) 0x40e00000) (number_place 4 3 0) 0x42700000) (number_place 4 3 1) 0x41200000

unfoldable pub probe_now : List ℕ
probe_now = set probe_was (number_place 4 3 0) 0x42a00000

-- the rows that the layout leaves, and the same with 90 as the answer to A's probe
unfoldable pub probe_rows : List ℕ
probe_rows = 0 ∷ 0 ∷ 0x42700000 ∷ 0x41880000 ∷ 0 ∷ 0 ∷ 0 ∷ 0 ∷ 0 ∷ 0 ∷ 0x42c80000 ∷ 0 ∷ 0 ∷ 0 ∷ 0 ∷ 0 ∷ 0 ∷ 0 ∷ 0x42700000 ∷ 0x40e00000 ∷ 0 ∷ 0 ∷ 0 ∷ 0 ∷ 0x42700000 ∷ 0 ∷ 0x42700000 ∷ 0 ∷ 0 ∷ 0x42200000 ∷ 0 ∷ 0 ∷ 0 ∷ 0 ∷ 0x42700000 ∷ 0x40e00000 ∷ 0 ∷ 0 ∷ 0 ∷ 0 ∷ 0x42700000 ∷ 0 ∷ 0x42700000 ∷ 0 ∷ 0 ∷ 0x42200000 ∷ 0 ∷ 0 ∷ 0 ∷ 0x40e00000 ∷ 0x42700000 ∷ 0x41200000 ∷ 0 ∷ 0 ∷ 0 ∷ 0 ∷ 0x42700000 ∷ 0x41200000 ∷ 0x42700000 ∷ 0 ∷ 0 ∷ 0 ∷ 0 ∷ 0 ∷ []

unfoldable pub probe_odd : List ℕ
probe_odd = set probe_rows 29 0x42b40000

unfoldable pub probe_marks : List ℕ
probe_marks = 0 ∷ 1 ∷ 0 ∷ 113 ∷ 0 ∷ 113 ∷ 1 ∷ 9 ∷ []

pub probe_laid : (bits_of (rows_out (fresh (page_of probe_words (floats probe_was) []) free).rows) ≡ probe_rows) × (marks_out (fresh (page_of probe_words (floats probe_was) []) free).rows ≡ probe_marks)
unfolding steps free probe_words probe_was probe_rows probe_marks
probe_laid = (refl, refl)

abbrev pub probe_cells : Tree Cell
probe_cells = cells_of probe_words (floats probe_now) (floats probe_odd) probe_marks (3 ∷ [])

-- nothing is kept: no node lies below a kept one, though a probe stands
pub probe_keeps_nothing : below_kept probe_cells free ≡ node false (more (node false (more (node false none) none)) (more (node false none) none))
unfolding steps free probe_words probe_was probe_now probe_rows probe_odd probe_marks under below_t below_kept
probe_keeps_nothing = refl

-- the page is 90 wide: A's probe was answered from its row; A itself and its leaf are laid out anew, at 90 (the box's auto margins share what is left)
pub probe_again : (bits_of (rows_out (relaid probe_cells free).rows) ≡ 0 ∷ 0 ∷ 0x42b40000 ∷ 0x41880000 ∷ 0 ∷ 0 ∷ 0 ∷ 0 ∷ 0 ∷ 0 ∷ 0x42c80000 ∷ 0 ∷ 0 ∷ 0 ∷ 0 ∷ 0 ∷ 0 ∷ 0 ∷ 0x42b40000 ∷ 0x40e00000 ∷ 0 ∷ 0 ∷ 0 ∷ 0 ∷ 0x42b40000 ∷ 0 ∷ 0x42b40000 ∷ 0 ∷ 0 ∷ 0x42b40000 ∷ 0 ∷ 0 ∷ 0 ∷ 0 ∷ 0x42b40000 ∷ 0x40e00000 ∷ 0 ∷ 0 ∷ 0 ∷ 0 ∷ 0x42b40000 ∷ 0 ∷ 0x42b40000 ∷ 0 ∷ 0 ∷ 0x42200000 ∷ 0 ∷ 0 ∷ 0x40a00000 ∷ 0x40e00000 ∷ 0x42a00000 ∷ 0x41200000 ∷ 0 ∷ 0 ∷ 0 ∷ 0 ∷ 0x42a00000 ∷ 0x41200000 ∷ 0x42b40000 ∷ 0 ∷ 0 ∷ 0 ∷ 0 ∷ 0 ∷ []) × (marks_out (relaid probe_cells free).rows ≡ probe_marks)
unfolding steps free probe_words probe_was probe_now probe_rows probe_odd probe_marks
probe_again = (refl, refl)
