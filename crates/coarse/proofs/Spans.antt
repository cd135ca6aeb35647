-- What it says of a node that 12 is not due: both edges on both axes are below the limit, and its box is the panel's.
use mathlib.Core.Path.{◌≡◌, refl, sym, ap, ◌∙◌}
use Rattle.std.specs.Prelude.{not, None, Some, is_some}
use mathlib.Core.Bool.{Bool, true, false, cond, ◌&&◌, ◌||◌}
use mathlib.Core.List.{List}
use Prim.Native.Nat.{ℕ}
use lib.Ieee.{Float}
use Rattle.geometry.specs.declared.Line.{Line}
use Rattle.limits.specs.Bools.{or_left, or_right}
use Rattle.limits.specs.Limits.{too_large}
use Rattle.coarse.specs.Panel.{laid_at, span_of, too_far, far_node, on_pixels, no_box, box_of}
use Rattle.coarse.specs.Spans.{pixel_span, seen_by, seen_of, seen_place}

pub near_in : (s : Line) → too_far s ≡ false → too_large s.start ≡ false
unfolding too_far
near_in s e = or_left (too_large s.start) _ e

pub far_in : (s : Line) → too_far s ≡ false → too_large s.end ≡ false
unfolding too_far
far_in s e = or_right (too_large s.start) _ e

pub by_spans : (across down : Line) (a b : Bool) → too_far across ≡ a → too_far down ≡ b → seen_by (pixel_span across) (pixel_span down) ≡ cond (too_far across || too_far down) None (Some (on_pixels across down))
unfolding pixel_span on_pixels
by_spans across down true b e f = rw e
by_spans across down false true e f = rw (e, f)
by_spans across down false false e f = rw (e, f)

module _ (near : ℕ → ℕ → Float) (rs : List Float) (ms : List ℕ) (i : ℕ) where
  -- a laid node that passes
  module _ (e : laid_at ms i ≡ true) (q : far_node near rs ms i ≡ false) where
    both : (too_far (span_of near rs 0 i) || too_far (span_of near rs 1 i)) ≡ false
    unfolding far_node
    both = ap (λ (b : Bool). b && (too_far (span_of near rs 0 i) || too_far (span_of near rs 1 i))) (sym e) ∙ q

    pub across-in : too_far (span_of near rs 0 i) ≡ false
    across-in = or_left (too_far (span_of near rs 0 i)) _ both

    pub down-in : too_far (span_of near rs 1 i) ≡ false
    down-in = or_right (too_far (span_of near rs 0 i)) _ both

  -- the box of either
  pub box-laid : laid_at ms i ≡ true → box_of near rs ms i ≡ on_pixels (span_of near rs 0 i) (span_of near rs 1 i)
  unfolding box_of
  box-laid e = rw e

  pub box_none : laid_at ms i ≡ false → box_of near rs ms i ≡ no_box
  unfolding box_of
  box_none e = rw e

  -- as the walk sees it
  pub seen_none : laid_at ms i ≡ false → Some no_box ≡ seen_of near rs ms i
  unfolding seen_of far_node box_of
  seen_none e = rw e

  pub seen-laid : laid_at ms i ≡ true → seen_by (pixel_span (span_of near rs 0 i)) (pixel_span (span_of near rs 1 i)) ≡ seen_of near rs ms i
  unfolding seen_of far_node box_of
  seen-laid e = by_spans (span_of near rs 0 i) (span_of near rs 1 i) _ _ refl refl ∙ rw e

  pub box-seen : far_node near rs ms i ≡ false → seen_place near rs ms i ≡ box_of near rs ms i
  unfolding seen_of
  box-seen q = rw q

  -- 12 is due where nothing is seen
  pub far_none : (b : Bool) → is_some (seen_of near rs ms i) ≡ not b → far_node near rs ms i ≡ b
  unfolding seen_of
  far_none b q = go (far_node near rs ms i) b q
    where
      go : (a b : Bool) → is_some (cond a None (Some (box_of near rs ms i))) ≡ not b → a ≡ b
      go true true q = refl
      go true false q = sym q
      go false true q = sym q
      go false false q = refl
