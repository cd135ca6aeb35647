-- A safe shift is never negative: over every align word and any free space, NaN and the infinities too. Assumes nothing.
use Rattle.std.specs.Prelude.{◌≡◌, refl, Bool, true, false, cond, ℕ, zero, suc, ◌+◌, ◌*◌, ◌^◌, ◌≤◌, ◌<◌, ltb, ℤ, pos, Float}
use Rattle.std.proofs.Common.{sym, ap, ◌∙◌, true≢false, zero-le, zero-mul, mul-one, mul-pos, zero-lt-suc, arith, ltb-false, le-ltb}
use Rattle.std.specs.Float.{nan, inf, fin, binary32}
use Rattle.std.specs.Float.Ieee.{up, down, lt, odd, units, round, div, of_bits}
use Rattle.std.specs.Float.Ieee.Fits.{down_pos, round_is}
use Rattle.std.specs.Float.Ieee.Scale.{round_same}
use Rattle.geometry.specs.Geometry.{zero_f}
use Rattle.geometry.specs.Floats.{◌⊘◌}
use Rattle.alignment.specs.Align.{two_f, room_of}

-- ---- half of what is not negative is not negative

-- with the plus sign nothing is below 0
plus_not_below : (m : ℕ) (e : ℤ) → lt (fin false m e) zero_f ≡ false
unfolding lt of_bits
plus_not_below m e = rw (zero-mul (down e)) (le-ltb (m * up e * 1) 0 zero-le)

odd_not_below : (d q k l : ℕ) → lt (odd d false q k l) zero_f ≡ false
unfolding odd
odd_not_below d zero k l = plus_not_below 0 (pos 0)
odd_not_below d (suc q) k l = plus_not_below _ _

inf_not_below : lt (inf false) zero_f ≡ false
unfolding lt of_bits
inf_not_below = refl

units_not_below : (q k : ℕ) → lt (units binary32 false q k) zero_f ≡ false
unfolding units
units_not_below q k = go (ltb (q * 2 ^ k) (2 ^ 277))
  where
    go : (t : Bool) → lt (cond t (odd 25 false q k 149) (inf false)) zero_f ≡ false
    go true = odd_not_below 25 q k 149
    go false = inf_not_below

round_not_below : (num den : ℕ) → lt (round binary32 false num den) zero_f ≡ false
round_not_below num den = rw (round_is binary32 false num den) (units_not_below _ _)

zero_is : lt (round binary32 true 0 1) zero_f ≡ false
unfolding lt of_bits round units odd
zero_is = refl

-- -0 halves to -0, whatever its exponent is written as
zero_rounds : (num den : ℕ) → num ≡ 0 → 0 < den → lt (round binary32 true num den) zero_f ≡ false
zero_rounds num den z h =
    ap (λ (x : Float). lt x zero_f) (round_same binary32 true num den 0 1 h (zero-lt-suc 0) (mul-one num ∙ z ∙ sym (zero-mul den))) ∙ zero_is

pub half_not_below : (x : Float) → lt x zero_f ≡ false → lt (x ⊘ two_f) zero_f ≡ false
unfolding div lt of_bits
half_not_below nan h = refl
half_not_below (inf false) h = refl
half_not_below (inf true) h = absurd (true≢false h)
half_not_below (fin false m e) h = round_not_below (m * up e * 1) (2 * down e)
half_not_below (fin true m e) h = zero_rounds (m * up e * 1) (2 * down e) (none_left (m * up e * 1) (0 * down e) (ltb-false 0 (m * up e * 1 + 0 * down e) h)) (mul-pos (zero-lt-suc 1) (down_pos e))
  where
    none_left : (a b : ℕ) → a + b ≤ 0 → a ≡ 0
    none_left a b l = omega arith

-- ---- the rule

pub nothing_below : lt zero_f zero_f ≡ false
unfolding lt of_bits
nothing_below = refl

pub room_not_below : (x : Float) → lt (room_of true x) zero_f ≡ false
unfolding room_of
room_not_below x = go (lt x zero_f) refl
  where
    go : (t : Bool) → lt x zero_f ≡ t → lt (cond t zero_f x) zero_f ≡ false
    go true e = nothing_below
    go false e = e
