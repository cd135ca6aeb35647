-- The theorem of lent tables: a layout accepts them, and number 22 (the ratio) equals 0 at every node.
use Rattle.steps.specs.declared.Refusal.TheVariants.{Lengths}
use Rattle.std.specs.Prelude.{◌≡◌, Bool, true, false, cond, ◌||◌, List, [], ℕ, zero, suc, ◌<◌, T, ltb, get_or, Float, None, Ok}
use Rattle.std.proofs.Common.{ap, arith}
use Rattle.std.specs.Float.Ieee.{eq, fits}
use Rattle.std.specs.Float.{binary32}
use Rattle.std.specs.Float.Ieee.Bits.{of_bits-fits}
use Rattle.geometry.specs.Geometry.{zero_f}
use Rattle.limits.specs.Bools.{or_left}
use Rattle.style.specs.Codes.{length_of, ratio_of}
use Rattle.style.specs.Style.{plane_of, number_place, number_at, length_at, rect_at, style_at}
use Rattle.tree.specs.Tree.{Tree}
use Rattle.steps.specs.Page.{site_at, nodes_in, page_of}
use Rattle.steps.specs.Noes.{bad_tables, bad_rows, refuse_if, layout_tested}
use Rattle.steps.specs.declared.LayoutInput.{LayoutInput}
use Rattle.tables.proofs.Passing.{sized, then_pass_1, if_pass}
use Rattle.laws.specs.Trees.{AllT}
use Rattle.laws.specs.Parsed.{all_parse}
use Rattle.classes.specs.Margins.{Box}
use Rattle.classes.specs.Fresh.{NoRatio, fresh_boxes}
use Rattle.classes.specs.Computes.{FitL, FitS}

-- number 22 equals 0 at every node
abbrev pub NoRatios : List ℕ → List Float → Type 0
NoRatios ws xs = (i : ℕ) → i < nodes_in ws → eq (number_at xs i 22) zero_f ≡ true

-- the numbers are 32-bit numbers, as those of a lent slice are
abbrev pub AllFit : List Float → Type 0
AllFit xs = (k : ℕ) → T (fits binary32 (get_or xs k zero_f))

-- the laid boxes of the page that the tables hold
abbrev pub boxes_on : List ℕ → List Float → LayoutInput → Tree Box
boxes_on ws xs q = fresh_boxes (page_of ws xs []) q

-- ---- what the tables say of each node
no_ratio : (x : Float) → eq x zero_f ≡ true → ratio_of x ≡ None
unfolding ratio_of
no_ratio x e = rw e

style_ratio : (ws : List ℕ) (xs : List Float) (i : ℕ) → eq (number_at xs i 22) zero_f ≡ true → (style_at ws i xs i).ratio ≡ None
unfolding style_at
style_ratio ws xs i e = no_ratio (number_at xs i 22) e

site_style : (ws : List ℕ) (xs : List Float) (es : List ℕ) (i : ℕ) → (site_at ws xs es 0 i).label.style ≡ style_at ws i xs i
unfolding site_at
site_style ws xs es i = ap (style_at ws i xs) (omega arith)

pub plain_page : (ws : List ℕ) (xs : List Float) → 0 < nodes_in ws → NoRatios ws xs → AllT NoRatio (page_of ws xs [])
unfolding page_of
plain_page ws xs p h = all_parse NoRatio (site_at ws xs [] 0) (nodes_in ws) p (λ i l. rw (site_style ws xs [] i) (style_ratio ws xs i (h i l)))

number_fits : (xs : List Float) → AllFit xs → (i f : ℕ) → T (fits binary32 (number_at xs i f))
unfolding number_at
number_fits xs h i f = go (ltb i (plane_of xs))
  where
    go : (b : Bool) → T (fits binary32 (cond b (get_or xs (number_place (plane_of xs) i f) zero_f) zero_f))
    go true = h (number_place (plane_of xs) i f)
    go false = of_bits-fits binary32 0

length_fits : (k : ℕ) (x : Float) → T (fits binary32 x) → FitL (length_of k x)
unfolding length_of
length_fits zero x h = tt
length_fits (suc zero) x h = h
length_fits (suc (suc zero)) x h = tt
length_fits (suc (suc (suc n))) x h = tt

margins_fit : (ws : List ℕ) (xs : List Float) (i : ℕ) → AllFit xs → FitL (style_at ws i xs i).margin.top × FitL (style_at ws i xs i).margin.bottom
unfolding style_at rect_at length_at
margins_fit ws xs i h = (length_fits _ _ (number_fits xs h i 6), length_fits _ _ (number_fits xs h i 8))

pub fit_page : (ws : List ℕ) (xs : List Float) → 0 < nodes_in ws → AllFit xs → AllT FitS (page_of ws xs [])
unfolding page_of
fit_page ws xs p h = all_parse FitS (site_at ws xs [] 0) (nodes_in ws) p (λ i l. rw (site_style ws xs [] i) (margins_fit ws xs i h))

-- tables that a layout accepts hold a node
pub some_node : (ws : List ℕ) (xs rs : List Float) (ms cw : List ℕ) (cx : List Float) (q : LayoutInput) → layout_tested ws xs rs ms cw cx q ≡ Ok tt → 0 < nodes_in ws
unfolding layout_tested
some_node ws xs rs ms cw cx q e =
    let b = if_pass (bad_tables ws xs || bad_rows ws rs ms) Lengths (then_pass_1 (refuse_if (bad_tables ws xs || bad_rows ws rs ms) Lengths) _ e) in
    (sized ws xs (or_left (bad_tables ws xs) _ b)).some
