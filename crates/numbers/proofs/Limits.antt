-- Test 4 of one length: 0 to 1 lies within the limits of every field and unit, so these count past it alone. Assumes nothing.
use mathlib.Core.Path.{◌≡◌, refl, sym, ◌∙◌}
use mathlib.Core.Bool.{Bool, true, false, cond, not, ◌&&◌, true≢false, false≢true}
use Prim.Native.Nat.{ℕ}
use lib.Dec.{T, eqb}
use lib.Ieee.{Float, nan, inf, fin, lt, eq, le, neg, is_nan, of_bits}
use Rattle.geometry.specs.Geometry.{zero_f}
use Rattle.limits.specs.Limits.{in_range}
use Rattle.util.specs.Order.{lt_none}
use Rattle.sums.specs.Sums.{le_lt}
use Rattle.steps.specs.Noes.{most_pixels, one_f, signed, most_of, bad_field}

-- ---- at most, or at least, passes over what is farther out

holds : (b : Bool) → b ≡ true → T b
holds true e = tt
holds false e = absurd (false≢true e)

number_first : (x y : Float) → le x y ≡ true → is_nan x ≡ false
unfolding le lt eq is_nan
number_first nan y e = absurd (false≢true e)
number_first (inf s) y e = refl
number_first (fin s m d) y e = refl

number_second : (x y : Float) → le x y ≡ true → is_nan y ≡ false
unfolding le lt eq is_nan
number_second nan nan e = absurd (false≢true e)
number_second (inf s) nan e = absurd (false≢true e)
number_second (fin s m d) nan e = absurd (false≢true e)
number_second x (inf s) e = refl
number_second x (fin s m d) e = refl

under : (x y : Float) → lt x y ≡ true → le x y ≡ true
unfolding le
under x y e = rw e

most_farther : (x a b : Float) → lt a b ≡ true → le x a ≡ true → le x b ≡ true
most_farther x a b l e = go (lt x b) refl
  where
    go : (t : Bool) → lt x b ≡ t → le x b ≡ true
    go true d = under x b d
    go false d = absurd (true≢false (sym l ∙ lt_none a x b (number_first x a e) (le_lt x a (holds _ e)) d))

least_farther : (x a b : Float) → lt b a ≡ true → le a x ≡ true → le b x ≡ true
least_farther x a b l e = go (lt b x) refl
  where
    go : (t : Bool) → lt b x ≡ t → le b x ≡ true
    go true d = under b x d
    go false d = absurd (true≢false (sym l ∙ lt_none b x a (number_second a x e) d (le_lt a x (holds _ e))))

-- ---- the four limits in order

one_most : lt one_f most_pixels ≡ true
unfolding lt of_bits
one_most = refl

one_zero : lt (neg one_f) zero_f ≡ true
unfolding lt of_bits neg
one_zero = refl

most_one : lt (neg most_pixels) (neg one_f) ≡ true
unfolding lt of_bits neg
most_one = refl

-- ---- what a fraction may be, a number of pixels may be

both : (a b c d : Bool) → (a ≡ true → c ≡ true) → (b ≡ true → d ≡ true) → (a && b) ≡ true → (c && d) ≡ true
both true true c d p q e = rw (p refl, q refl)
both true false c d p q e = absurd (false≢true e)
both false b c d p q e = absurd (false≢true e)

wider : (s : Bool) (x : Float) → in_range x (cond s (neg one_f) zero_f) one_f ≡ true → in_range x (cond s (neg most_pixels) zero_f) most_pixels ≡ true
unfolding in_range
wider true x e = both (le (neg one_f) x) (le x one_f) _ _ (least_farther x (neg one_f) (neg most_pixels) most_one) (most_farther x one_f most_pixels one_most) e
wider false x e = both (le zero_f x) (le x one_f) _ _ (λ h. h) (most_farther x one_f most_pixels one_most) e

module _ (f unit : ℕ) (x : Float) where
  -- within a fraction's limits: good, whatever the unit
  good-within : in_range x (cond (signed f) (neg one_f) zero_f) one_f ≡ true → false ≡ bad_field f unit x
  unfolding bad_field most_of
  good-within e = go (eqb unit 2) refl
    where
      go : (t : Bool) → eqb unit 2 ≡ t → false ≡ bad_field f unit x
      go true h = rw (h, e)
      go false h = rw (h, wider (signed f) x e)

  -- from 0 to 1: whatever the field too
  pub good-between : in_range x zero_f one_f ≡ true → false ≡ bad_field f unit x
  unfolding in_range
  good-between e = good-within (between (signed f) e)
    where
      between : (s : Bool) → in_range x zero_f one_f ≡ true → in_range x (cond s (neg one_f) zero_f) one_f ≡ true
      between true h = both (le zero_f x) (le x one_f) _ _ (least_farther x zero_f (neg one_f) one_zero) (λ k. k) h
      between false h = h
