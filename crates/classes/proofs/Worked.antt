-- Worked: the gap of a class of six margins; and a page with a ratio, where the gap is not the sum of the class.
use Rattle.std.specs.Prelude.{◌≡◌, refl, ◌⊎◌, true, Float}
use Rattle.std.proofs.Common.{sym, ap, ◌∙◌, inl, inr, true≢false}
use Rattle.std.specs.Float.Ieee.{lt, add, of_bits, to_bits}
use Rattle.std.specs.Float.{binary32}
use Rattle.geometry.specs.Geometry.{zero_f}
use Rattle.classes.specs.Margins.{Top, val_t, Sum}
use Rattle.classes.specs.Spots.{box_at_t}
use Rattle.classes.specs.Worked.{ten, bridge, third, one_class, values, ClassValues}

below_none : (x : Float) → lt x zero_f ≡ true → ClassValues x → ⊥
unfolding lt of_bits
below_none x e h = go (values h.0)
  where
    go : (val_t bridge h.0 ≡ zero_f) ⊎ (val_t bridge h.0 ≡ ten) → ⊥
    go (inl d) = true≢false (sym e ∙ ap (λ (z : Float). lt z zero_f) (sym h.2 ∙ d))
    go (inr d) = true≢false (sym e ∙ ap (λ (z : Float). lt z zero_f) (sym h.2 ∙ d))

above_ten : (x : Float) → lt zero_f x ≡ true → ClassValues x → x ≡ ten
unfolding lt of_bits
above_ten x e h = go (values h.0)
  where
    go : (val_t bridge h.0 ≡ zero_f) ⊎ (val_t bridge h.0 ≡ ten) → x ≡ ten
    go (inl d) = absurd (true≢false (sym e ∙ ap (lt zero_f) (sym h.2 ∙ d)))
    go (inr d) = sym h.2 ∙ d

pub bridge_fails : Sum ClassValues (box_at_t bridge third).gap → ⊥
unfolding lt add of_bits to_bits
bridge_fails s = go s.most.one s.least.one
  where
    go : (s.positive ≡ zero_f) ⊎ ((lt zero_f s.positive ≡ true) × ClassValues s.positive) → (s.negative ≡ zero_f) ⊎ ((lt s.negative zero_f ≡ true) × ClassValues s.negative) → ⊥
    go (inl e) n = true≢false (ap (λ (z : Float). lt z ten) (sym e) ∙ s.most.none_above ten (inr (inl (inl Top)), one_class, refl))
    go (inr e) (inr n) = below_none s.negative n.0 n.1
    go (inr e) (inl n) =
        let d : zero_f ≡ add binary32 ten zero_f = s.is ∙ ap (λ (z : Float). add binary32 z s.negative) (above_ten s.positive e.0 e.1) ∙ ap (λ (z : Float). add binary32 ten z) n in
        true≢false (ap (λ (z : Float). lt z ten) d)
