-- Each condition is needed: small pages that a layout accepts, each with one node that is not steady and rows out of order; and each mended, in the class. Computed.
use Rattle.std.specs.Prelude.{◌≡◌, refl, true, false, List, [], ◌∷◌, ℕ, ◌+◌, ◌*◌, replicate, Float, None, Some, Ok}
use Rattle.std.specs.Float.Ieee.{of_bits, le}
use Rattle.std.specs.Float.{binary32}
use Rattle.geometry.specs.Geometry.{zero_f}
use Rattle.length.specs.declared.AvailableSpace.TheVariants.{MaxContent}
use Rattle.steps.specs.Row.{row_at}
use Rattle.steps.specs.Page.{nodes_in}
use Rattle.steps.specs.Question.{root_input}
use Rattle.steps.specs.Results.{Reply, layout_result}
use Rattle.steps.specs.declared.LayoutInput.{LayoutInput}
use Rattle.steps.proofs.Computed.{calls}
use Rattle.facts.specs.Pages.{Given, given, numbers_of, height, px5, px10, px20, px100, minus}
use Rattle.order.specs.Class.{fair, whole, still, unshifted, fair_down, whole_down, steady, unsteady, keeps_order}
use Rattle.order.specs.Rows.{top_edge, bottom_edge}

-- words, and the numbers that are not 0
pub record Page : Type 0 where
  pub words : List ℕ
  pub numbers : List Given

abbrev numbers_in : Page → List Float
numbers_in p = numbers_of p.numbers (replicate (28 * nodes_in p.words) zero_f)

-- the root is 100 wide
unfoldable pub asked : LayoutInput
asked =
    root_input
    record { known = record { width = Some (of_bits binary32 px100); height = None }; parent = of_bits binary32 px100; definiteHeight = false; available = MaxContent; collapseStart = false; collapseEnd = false }

abbrev laid_out : Page → Reply
laid_out p = layout_result p.words (numbers_in p) (replicate (16 * nodes_in p.words) zero_f) (replicate (2 * nodes_in p.words) 0) [] [] asked

-- accepted, and in the class
abbrev pub Mended : Page → Type 0
Mended p = ((laid_out p).answer ≡ Ok 0) × (keeps_order p.words (numbers_in p) ≡ true)

-- accepted, node j stands above the bottom edge of node i, and not in the class
abbrev pub Breaks : Page → ℕ → ℕ → Type 0
Breaks p i j =
    ((laid_out p).answer ≡ Ok 0)
    × (le (bottom_edge (row_at (laid_out p).rows (laid_out p).marks i)) (top_edge (row_at (laid_out p).rows (laid_out p).marks j)) ≡ false)
    × (keeps_order p.words (numbers_in p) ≡ false)

-- a node: its run, its style, its fields with a length of their own; padding and border are pixels
abbrev box : ℕ → ℕ → ℕ → ℕ → List ℕ → List ℕ
box n style fields borders rest = n ∷ style ∷ (0x5500000 + fields) ∷ (0x55 + borders) ∷ rest

abbrev plain_box : List ℕ → List ℕ
plain_box rest = box 1 0 height 0 rest

-- ---- a margin below 0: 4 up, under a box of 10
unfoldable pub pulled : ℕ → Page
pulled margin = record { words = box 3 0 0 0 (box 1 0 (height + 0x10000) 0 (plain_box [])); numbers = given 1 1 px10 ∷ given 1 8 margin ∷ given 2 1 px10 ∷ [] }

pub negative_margin : Breaks (pulled (minus 0x4080_0000)) 1 2 × Mended (pulled 0x4080_0000)
unfolding calls numbers_of asked root_input fair whole still unshifted fair_down whole_down steady unsteady keeps_order pulled
negative_margin = ((refl, refl, refl), (refl, refl))

-- ---- a relative box: a box of 10 moved down by 5
unfoldable pub moved : ℕ → Page
moved style = record { words = box 3 0 0 0 (box 1 style height 0x100 (plain_box [])); numbers = given 1 1 px10 ∷ given 1 18 px5 ∷ given 2 1 px10 ∷ [] }

pub relative_box : Breaks (moved 0x10) 1 2 × Mended (moved 0)
unfolding calls numbers_of asked root_input fair whole still unshifted fair_down whole_down steady unsteady keeps_order moved
relative_box = ((refl, refl, refl), (refl, refl))

-- ---- align: boxes of 3.6, 0.7 and 1 in one of 20. The shift is added to both places and each sum rounds: the last bit is lost.
unfoldable pub shifted : ℕ → Page
shifted style =
    record {
      words = box 4 style height 0 (plain_box (plain_box (plain_box [])));
      numbers = given 0 1 px20 ∷ given 1 1 0x4066_6666 ∷ given 2 1 0x3f33_3333 ∷ given 3 1 0x3f80_0000 ∷ [];
    }

-- center, end, safe center, space-around, space-evenly; and what stays in: normal, start, space-between, stretch
pub align_center : Breaks (shifted 0x800) 2 3 × Breaks (shifted 0xc00) 2 3 × Breaks (shifted 0x2_0800) 2 3 × Breaks (shifted 0x4000) 2 3 × Breaks (shifted 0x6000) 2 3
unfolding calls numbers_of asked root_input fair whole still unshifted fair_down whole_down steady unsteady keeps_order shifted
align_center = ((refl, refl, refl), (refl, refl, refl), (refl, refl, refl), (refl, refl, refl), (refl, refl, refl))

pub align_start : Mended (shifted 0) × Mended (shifted 0x400) × Mended (shifted 0x2000) × Mended (shifted 0x8000)
unfolding calls numbers_of asked root_input fair whole still unshifted fair_down whole_down steady unsteady keeps_order shifted
align_start = ((refl, refl), (refl, refl), (refl, refl), (refl, refl))

-- ---- fractions: a scrollbar of 115 in a width of 100, so that 100 % of the inner width is -15
unfoldable pub narrow : ℕ → ℕ → List Given → Page
narrow fields borders gs =
    record {
      words = box 4 0x300 0 0 (plain_box (box 1 4 (height + fields) borders (plain_box [])));
      numbers = given 0 23 0x42e6_0000 ∷ given 1 1 px10 ∷ given 3 1 px10 ∷ gs;
    }

abbrev ones : ℕ → List Given
ones f = given 2 f 0x3f80_0000 ∷ given 2 (f + 2) 0x3f80_0000 ∷ []

-- a content-box of height 0 with paddings, or borders, of 100 % is -30 high; a top margin of 100 % is -15
pub fraction_padding : Breaks (narrow 0x110_0000 0 (ones 10)) 1 3 × Mended (narrow 0 0 (ones 10))
unfolding calls numbers_of asked root_input fair whole still unshifted fair_down whole_down steady unsteady keeps_order narrow
fraction_padding = ((refl, refl, refl), (refl, refl))

pub fraction_border : Breaks (narrow 0 0x11 (ones 14)) 1 3 × Mended (narrow 0 0 (ones 14))
unfolding calls numbers_of asked root_input fair whole still unshifted fair_down whole_down steady unsteady keeps_order narrow
fraction_border = ((refl, refl, refl), (refl, refl))

pub fraction_margin : Breaks (narrow 0x2000 0 (given 2 6 0x3f80_0000 ∷ [])) 1 2 × Mended (narrow 0x1000 0 (given 2 6 0x3f80_0000 ∷ []))
unfolding calls numbers_of asked root_input fair whole still unshifted fair_down whole_down steady unsteady keeps_order narrow
fraction_margin = ((refl, refl, refl), (refl, refl))
