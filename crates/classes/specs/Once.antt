-- A class has one pair, so 'the' largest positive and 'the' smallest negative: for margins that are written as 32 bits write them.
use Rattle.std.specs.Prelude.{◌≡◌, refl, ◌⊎◌, Bool, true, false, T, Float}
use Rattle.std.proofs.Common.{sym, ap, subst, ◌∙◌, inl, inr}
use Rattle.std.specs.Float.Ieee.{lt, fits, add}
use Rattle.std.specs.Float.{binary32}
use Rattle.std.specs.Float.Ieee.Bits.{of_bits-fits}
use Rattle.geometry.specs.Geometry.{zero_f}
use Rattle.util.specs.Math.{larger, smaller}
use Rattle.util.specs.Order.{lt_asym}
use Rattle.margin.specs.Margin.{joined}
use Rattle.margin.specs.Laws.{made_comm}
use Rattle.margin.specs.declared.CollapsibleMarginSet.{CollapsibleMarginSet}
use Rattle.classes.specs.Margins.{Largest, Smallest, Sum}
use Rattle.classes.specs.Sets.{Pair, pair_made}

abbrev pub FitsC : (Float → Type 0) → Type 0
FitsC C = (x : Float) → C x → T (fits binary32 x)

module _ (C : Float → Type 0) where
  most-fits : FitsC C → (x : Float) → Largest C x → T (fits binary32 x)
  most-fits f x l = go l.one
    where
      go : (x ≡ zero_f) ⊎ ((lt zero_f x ≡ true) × C x) → T (fits binary32 x)
      go (inl e) = subst (λ (y : Float). T (fits binary32 y)) (sym e) (of_bits-fits binary32 0)
      go (inr h) = f x h.1

  least_fits : FitsC C → (x : Float) → Smallest C x → T (fits binary32 x)
  least_fits f x l = go l.one
    where
      go : (x ≡ zero_f) ⊎ ((lt x zero_f ≡ true) × C x) → T (fits binary32 x)
      go (inl e) = subst (λ (y : Float). T (fits binary32 y)) (sym e) (of_bits-fits binary32 0)
      go (inr h) = f x h.1

  self : (x : Float) → lt x x ≡ false
  self x = go (lt x x) refl
    where
      go : (t : Bool) → lt x x ≡ t → lt x x ≡ false
      go true e = lt_asym x x e
      go false e = e

  most-not : (x y : Float) → Largest C x → Largest C y → lt x y ≡ false
  most-not x y l k = go l.one k.one
    where
      go : (x ≡ zero_f) ⊎ ((lt zero_f x ≡ true) × C x) → (y ≡ zero_f) ⊎ ((lt zero_f y ≡ true) × C y) → lt x y ≡ false
      go (inl e) (inl d) = ap (λ (z : Float). lt z y) (e ∙ sym d) ∙ self y
      go (inr h) (inl d) = ap (lt x) d ∙ lt_asym zero_f x h.0
      go h (inr d) = l.none_above y d.1

  least-not : (x y : Float) → Smallest C x → Smallest C y → lt y x ≡ false
  least-not x y l k = go l.one k.one
    where
      go : (x ≡ zero_f) ⊎ ((lt x zero_f ≡ true) × C x) → (y ≡ zero_f) ⊎ ((lt y zero_f ≡ true) × C y) → lt y x ≡ false
      go (inl e) (inl d) = ap (lt y) (e ∙ sym d) ∙ self y
      go (inr h) (inl d) = ap (λ (z : Float). lt z x) d ∙ lt_asym x zero_f h.0
      go h (inr d) = l.none_below y d.1

  kept : (a b : CollapsibleMarginSet) → Pair C a → Pair C b → joined a b ≡ a
  unfolding joined larger smaller
  kept a b p q = rw (most-not _ _ p.most q.most, least-not _ _ p.least q.least)

  pub pair-once : FitsC C → (a b : CollapsibleMarginSet) → Pair C a → Pair C b → a ≡ b
  pair-once f a b p q =
      sym (kept a b p q)
      ∙ made_comm a b (pair_made C a p) (pair_made C b q) (most-fits f _ p.most, least_fits f _ p.least) (most-fits f _ q.most, least_fits f _ q.least)
      ∙ kept b a q p

  pub sum-once : FitsC C → (g h : Float) → Sum C g → Sum C h → g ≡ h
  sum-once f g h s r =
      let e = pair-once f (record { positive = s.positive; negative = s.negative }) (record { positive = r.positive; negative = r.negative }) (record { most = s.most; least = s.least }) (record { most = r.most; least = r.least }) in
      s.is ∙ ap (λ (z : CollapsibleMarginSet). add binary32 z.positive z.negative) e ∙ sym r.is
