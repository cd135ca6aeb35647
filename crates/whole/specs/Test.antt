-- The test whether a float is a whole number up to 1024 in size, and the number that it is. Assumes nothing.
use Rattle.std.specs.Prelude.{◌≡◌, refl, ◌⊎◌, Bool, true, false, ◌&&◌, ◌||◌, ℕ, ◌+◌, ◌*◌, ◌/◌, ◌%◌, ◌≤◌, ◌<◌, T, leb, eqb, ℤ, pos, nat_abs, Float}
use Rattle.std.proofs.Common.{sym, ap, ◌∙◌, subst, inl, inr, zero-mul, mul_right_comm, add-zero, mul-div_cancel, div-add-mod', eqb→eq, leb→le}
use Rattle.std.specs.Bool.{beq}
use Rattle.std.proofs.Math.Nat.{eq_of_mul-eq-mul_right, mul-mod_left}
use Rattle.std.specs.Float.{nan, inf, fin}
use Rattle.std.specs.Float.Ieee.{up, down, eq, level}
use Rattle.std.specs.Float.Ieee.Fits.{down_pos, and_l, and_r}
use Rattle.whole.specs.Whole.{signed, Whole, abs_signed}

-- ---- the test

-- no fraction, and at most 1024; a NaN and an infinity are no pixels
abbrev pub pixel : Float → Bool
pixel nan = false
pixel (inf s) = false
pixel (fin s m e) = eqb (m * up e % down e) 0 && leb (m * up e / down e) 1024

-- the number, its fraction dropped
abbrev pub number : Float → ℤ
number nan = pos 0
number (inf s) = pos 0
number (fin s m e) = signed s (m * up e / down e)

pub cut : (m : ℕ) (e : ℤ) (n : ℕ) → m * up e ≡ n * down e → (m * up e / down e ≡ n) × (m * up e % down e ≡ 0)
cut m e n h = (ap (λ (z : ℕ). z / down e) h ∙ mul-div_cancel n (down_pos e), ap (λ (z : ℕ). z % down e) h ∙ mul-mod_left n (down e))

pub pixel_whole : (x : Float) → T (pixel x) → Whole x (number x) × (nat_abs (number x) ≤ 1024)
pixel_whole nan t = absurd t
pixel_whole (inf s) t = absurd t
pixel_whole (fin s m e) t =
    let a = m * up e in
    let n = a / down e in
    let r : a % down e ≡ 0 = eqb→eq (a % down e) 0 (and_l (eqb (a % down e) 0) (leb n 1024) t) in
    let w : a ≡ n * down e = sym (div-add-mod' a (down e)) ∙ ap (λ (z : ℕ). n * down e + z) r ∙ add-zero (n * down e) in
    let i = abs_signed s n in
    ((w ∙ ap (λ (z : ℕ). z * down e) (sym i), ap (signed s) i), rw (i) (leb→le n 1024 (and_r (eqb (a % down e) 0) (leb n 1024) t)))

-- ---- what compares equal to a whole number is that number

level_says : (s : Bool) (a : ℕ) (t : Bool) (b : ℕ) → level s a t b ≡ true → (a ≡ b) × ((s ≡ t) ⊎ (a ≡ 0))
level_says s a t b h =
    let v = subst T (sym h) tt in
    (eqb→eq a b (and_l (eqb a b) (beq s t || eqb a 0) v), go s t (and_r (eqb a b) (beq s t || eqb a 0) v))
  where
    go : (s t : Bool) → T (beq s t || eqb a 0) → (s ≡ t) ⊎ (a ≡ 0)
    go true true v = inl refl
    go true false v = inr (eqb→eq a 0 v)
    go false true v = inr (eqb→eq a 0 v)
    go false false v = inl refl

zero_abs : (n d : ℕ) → 0 < d → 0 ≡ n * d → n ≡ 0
zero_abs n d h q = eq_of_mul-eq-mul_right d h n 0 (sym q ∙ sym (zero-mul d))

zero_sign : (s t : Bool) (k : ℤ) → nat_abs k ≡ 0 → signed t (nat_abs k) ≡ k → signed s (nat_abs k) ≡ k
zero_sign s t k z v = ap (signed s) z ∙ any s t ∙ ap (signed t) (sym z) ∙ v
  where
    any : (s t : Bool) → signed s 0 ≡ signed t 0
    any true true = refl
    any true false = refl
    any false true = refl
    any false false = refl

pub eq_carries : (x y : Float) (k : ℤ) → eq x y ≡ true → Whole y k → Whole x k
unfolding eq
eq_carries nan y k h q = absurd (subst T (sym h) tt)
eq_carries (inf s) nan k h q = q
eq_carries (inf s) (inf t) k h q = q
eq_carries (inf s) (fin t n d) k h q = absurd (subst T (sym h) tt)
eq_carries (fin s m e) nan k h q = absurd q
eq_carries (fin s m e) (inf t) k h q = absurd q
eq_carries (fin s m e) (fin t n d) k h q =
    let l = level_says s (m * up e * down d) t (n * up d * down e) h in
    let i : m * up e * down d ≡ nat_abs k * down e * down d = l.0 ∙ ap (λ (z : ℕ). z * down e) q.0 ∙ mul_right_comm (nat_abs k) (down d) (down e) in
    let j : m * up e ≡ nat_abs k * down e = eq_of_mul-eq-mul_right (down d) (down_pos d) (m * up e) (nat_abs k * down e) i in (
      j,
      elim l.1 [
        | inl u ↦ ap (λ (z : Bool). signed z (nat_abs k)) u ∙ q.1
        | inr z ↦ zero_sign s t k (zero_abs (nat_abs k) (down e) (down_pos e) (zero-abs' (nat_abs k * down e) (down d) (down_pos d) (sym z ∙ i))) q.1
      ],
    )
  where
    zero-abs' : (n d : ℕ) → 0 < d → 0 ≡ n * d → 0 ≡ n
    zero-abs' n d h q = sym (zero_abs n d h q)
