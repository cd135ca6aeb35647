-- What an f32's bits say of its size in units of 2 ^ -149. Assumes nothing.
use Rattle.std.specs.Prelude.{◌≡◌, refl, Bool, true, false, not, cond, ℕ, zero, suc, ◌+◌, ◌*◌, ◌-◌, ◌/◌, ◌%◌, ◌^◌, ◌<◌, ◌≤◌, T, leb, eqb, pos, neg_ℤ, nat_abs, Float}
use Rattle.std.proofs.Common.{sym, ap, ◌∙◌, subst, true≢false, mul_right_comm, mul-one, mul-div_cancel, lt_of_mul-lt-mul_right, mul-lt-mul_of_pos_right, mul-le-mul, lt_of_lt_of_le, lt_of_le_of_lt, lt_irrefl, arith, pow_pos, pow_mono, shl_lt, ltb-true, leb-true, leb-false}
use Rattle.std.proofs.Math.Pow.{add-lt-pow}
use Rattle.std.specs.Float.{nan, inf, fin, binary32}
use Rattle.std.specs.Float.Ieee.{up, down, lt, neg, odd, of_fields, of_bits, to_bits, fits, is_nan}
use Rattle.std.specs.Float.Ieee.Bits.{of_bits-to_bits}
use Rattle.std.specs.Float.Ieee.Exact.{HasValue, odd_sign}
use Rattle.std.specs.Float.Ieee.Fits.{down_pos}
use Rattle.std.proofs.lemmas.Bool.{not-false}
use Rattle.limits.specs.Bools.{and_fst, and_snd}
use Rattle.limits.specs.Limits.{limit, too_large, finite}
use Rattle.limits.specs.Laws.{small_finite}
use Rattle.pixel.specs.Pixel.{size_of, signed, scaled, halves_up, whole_pixel}

pub no_nan : (x : Float) → finite x ≡ true → T (not (is_nan x))
unfolding is_nan
no_nan nan e = absurd (true≢false (sym e))
no_nan (inf s) e = tt
no_nan (fin s m g) e = tt

-- ---- the three fields of the bits, and the size that they say

abbrev pub field : ℕ → ℕ
field b = b % 0x8000_0000 / 0x80_0000

abbrev pub digits : ℕ → ℕ
digits b = b % 0x80_0000

abbrev pub bulk : ℕ → ℕ → ℕ
bulk zero t = t * 2 ^ 0
bulk (suc k) t = (0x80_0000 + t) * 2 ^ k

fields_value : (s : Bool) (x t : ℕ) → finite (of_fields binary32 s x t) ≡ true → HasValue (of_fields binary32 s x t) s (bulk x t) (2 ^ 149)
unfolding of_fields
fields_value s zero t f = odd_sign 24 s t 0 149
fields_value s (suc k) t f = go (eqb (suc k) 255) (eqb t 0) f
  where
    go : (a b : Bool) → finite (cond a (cond b (inf s) nan) (odd 24 s (0x80_0000 + t) k 149)) ≡ true
        → HasValue (cond a (cond b (inf s) nan) (odd 24 s (0x80_0000 + t) k 149)) s ((0x80_0000 + t) * 2 ^ k) (2 ^ 149)
    go true true g = absurd (true≢false (sym g))
    go true false g = absurd (true≢false (sym g))
    go false b g = odd_sign 24 s (0x80_0000 + t) k 149

pub value : (x : Float) → T (fits binary32 x) → finite x ≡ true
    → HasValue x (leb 0x8000_0000 (to_bits binary32 x)) (bulk (field (to_bits binary32 x)) (digits (to_bits binary32 x))) (2 ^ 149)
unfolding of_bits
value x h f =
    let b = to_bits binary32 x in
    let e : of_fields binary32 (leb 0x8000_0000 b) (field b) (digits b) ≡ x = of_bits-to_bits binary32 x h in
    subst (λ (v : Float). HasValue v (leb 0x8000_0000 b) (bulk (field b) (digits b)) (2 ^ 149)) e (fields_value (leb 0x8000_0000 b) (field b) (digits b) (ap finite e ∙ f))

-- so that is its scaled number
pub scaled_is : (x : Float) (s : Bool) (M : ℕ) → HasValue x s M (2 ^ 149) → scaled x ≡ signed s M
unfolding scaled size_of
scaled_is nan s M h = absurd h
scaled_is (inf t) s M h = absurd h
scaled_is (fin t m g) s M h = ap (λ (n : ℕ). signed t n) (ap (λ (n : ℕ). n / down g) h.1 ∙ mul-div_cancel M (down_pos g)) ∙ ap (λ (u : Bool). signed u M) h.0

-- ---- the limit, as a bound on the size

room : (a M D P L : ℕ) → 0 < P → a * P ≡ M * D → a * 1 < L * D → M < L * P
room a M D P L p e h =
    lt_of_mul-lt-mul_right D
    (subst (λ (z : ℕ). z < L * P * D) e
    (subst (λ (z : ℕ). a * P < z) (mul_right_comm L D P)
    (mul-lt-mul_of_pos_right (subst (λ (z : ℕ). z < L * D) (mul-one a) h) p)))

below_limit : (x : Float) → too_large x ≡ false → lt x limit ≡ true
unfolding too_large
below_limit x e = and_fst (lt x limit) (lt (neg limit) x) (not-false _ e)

above_limit : (x : Float) → too_large x ≡ false → lt (neg limit) x ≡ true
unfolding too_large
above_limit x e = and_snd (lt x limit) (lt (neg limit) x) (not-false _ e)

pub under_limit : (x : Float) (s : Bool) (M : ℕ) → HasValue x s M (2 ^ 149) → too_large x ≡ false → M < 2 ^ 24 * 2 ^ 149
unfolding lt neg of_bits
under_limit nan s M h e = absurd h
under_limit (inf t) s M h e = absurd h
under_limit (fin false m g) s M h e =
    room (m * up g) M (down g) (2 ^ 149) (2 ^ 24) (pow_pos 149) h.1 (ltb-true (m * up g * 1) (2 ^ 24 * down g) (below_limit (fin false m g) e))
under_limit (fin true m g) s M h e =
    room (m * up g) M (down g) (2 ^ 149) (2 ^ 24) (pow_pos 149) h.1 (ltb-true (m * up g * 1) (2 ^ 24 * down g) (above_limit (fin true m g) e))

-- the exponent's field is at most 150
low_field : (k t : ℕ) → (0x80_0000 + t) * 2 ^ k < 2 ^ 24 * 2 ^ 149 → k < 150
low_field k t h = go (leb 150 k) refl
  where
    more : 0x80_0000 ≤ 0x80_0000 + t
    more = omega arith

    go : (a : Bool) → leb 150 k ≡ a → k < 150
    go true e = absurd (lt_irrefl (2 ^ 173) (lt_of_le_of_lt (mul-le-mul more (pow_mono (leb-true 150 k e))) h))
    go false e = leb-false 150 k e

pub field_bound : (x t : ℕ) → bulk x t < 2 ^ 24 * 2 ^ 149 → x ≤ 150
field_bound zero t h = omega arith
field_bound (suc k) t h = low_field k t h

-- a field below 126: less than a half
at_most : (M j : ℕ) → M < 2 ^ j → j ≤ 148 → M + M < 2 ^ 149
at_most M j h l =
    let q = lt_of_lt_of_le h (pow_mono l) in
    add-lt-pow 148 q q

pub low_bulk : (x t : ℕ) → t < 0x80_0000 → x < 126 → bulk x t + bulk x t < 2 ^ 149
low_bulk zero t h l = at_most (t * 2 ^ 0) 23 (shl_lt 23 0 h) (omega arith)
low_bulk (suc k) t h l = at_most ((0x80_0000 + t) * 2 ^ k) (24 + k) (shl_lt 24 k (omega arith)) (omega arith)

-- ---- what the code answers

-- what the code knows of its argument
abbrev pub Edge : Float → Type 0
Edge x = T (fits binary32 x) × (too_large x ≡ false)

known : (x : Float) → Edge x → HasValue x (leb 0x8000_0000 (to_bits binary32 x)) (bulk (field (to_bits binary32 x)) (digits (to_bits binary32 x))) (2 ^ 149)
known x g = value x g.0 (small_finite x g.1)

pub field_in : (x : Float) → Edge x → field (to_bits binary32 x) ≤ 150
field_in x g =
    let b = to_bits binary32 x in
    field_bound (field b) (digits b) (under_limit x (leb 0x8000_0000 b) (bulk (field b) (digits b)) (known x g) g.1)

pub by_size : (x : Float) → Edge x → whole_pixel x ≡ halves_up (signed (leb 0x8000_0000 (to_bits binary32 x)) (bulk (field (to_bits binary32 x)) (digits (to_bits binary32 x))))
unfolding whole_pixel
by_size x g =
    let b = to_bits binary32 x in
    ap halves_up (scaled_is x (leb 0x8000_0000 b) (bulk (field b) (digits b)) (known x g))

-- ---- a pixel's size: at most 2 ^ 24, so that a difference of two is an i32

pub abs_neg : (n : ℕ) → nat_abs (neg_ℤ (pos n)) ≡ n
abs_neg zero = refl
abs_neg (suc n) = refl
