-- Of the numbers that an f32 holds, those from the lowest to the largest are the finite ones.
use mathlib.Core.Path.{◌≡◌, refl, sym, ap, subst, ◌∙◌}
use mathlib.Core.Bool.{Bool, true, false, ◌&&◌, ◌||◌}
use Prim.Native.Nat.{ℕ, zero, suc, ◌+◌, ◌*◌, ◌-◌, ◌%◌, ◌^◌, ◌<◌, ◌≤◌, zero-le}
use native.Mathlib.Omega.{arith}
use native.Mathlib.Nat.{mul-le-mul, mul-le-mul_right, lt_of_mul-lt-mul_right, mul_assoc, mul-one, zero-mul, mul-pos, le_of_lt, le_trans}
use lib.IntN.{ℤ, pos, negsuc}
use lib.Pow.{pow-add, pow_mono, pow_pos}
use lib.Dec.{T, ltb, leb, eqb, ltb→lt, lit<, lit≤}
use lib.Ieee.{Float, nan, inf, fin, up, down, lt, le, eq, fits, of_bits, binary32}
use lib.Ieee.Fits.{and_l, and_r, down_pos}
use borrow.Author.Tests.{lt-ltb, eq-eqb, ltb-true, ltb-false}
use Rattle.limits.specs.Limits.{in_range, finite}
use Rattle.scroll.specs.Scroll.{is_finite}

under : (n : ℕ) → n < 2 ^ 24 → n ≤ 16777215
under n h = omega arith

-- the largest is (2 ^ 24 - 1) * 2 ^ 104
whole_bound : (m k : ℕ) → m < 2 ^ 24 → m * 2 ^ k < 2 ^ 128 → (b : Bool) → ltb 104 k ≡ b → m * 2 ^ k ≤ 16777215 * 2 ^ 104
whole_bound m k g h true e =
    let l = ltb-true 104 k e in
    let q : k ≡ k - 104 + 104 = omega arith in
    let w : m * 2 ^ k ≡ m * 2 ^ (k - 104) * 2 ^ 104 = ap (λ (n : ℕ). m * 2 ^ n) q ∙ ap (λ (n : ℕ). m * n) (pow-add 2 (k - 104) 104) ∙ sym (mul_assoc m (2 ^ (k - 104)) (2 ^ 104)) in
    let z : m * 2 ^ (k - 104) < 2 ^ 24 = lt_of_mul-lt-mul_right (2 ^ 104) (subst (λ (n : ℕ). n < 2 ^ 24 * 2 ^ 104) w h) in
    let y : m * 2 ^ (k - 104) ≤ 16777215 = under _ z in
    subst (λ (n : ℕ). n ≤ 16777215 * 2 ^ 104) (sym w) (mul-le-mul_right (2 ^ 104) y)
whole_bound m k g h false e =
    let l = ltb-false 104 k e in
    mul-le-mul (under m g) (pow_mono {i = k} {j = 104} l)

bound : (m : ℕ) (e : ℤ) → m < 2 ^ 24 → m * up e < 2 ^ 128 * down e → m * up e ≤ 16777215 * 2 ^ 104 * down e
bound m (negsuc k) g h = mul-le-mul (le_trans (le_of_lt g) (lit≤ tt)) (pow_pos (suc k))
bound m (pos k) g h = whole_bound m k g h (ltb 104 k) refl

fit_bound : (s : Bool) (m : ℕ) (e : ℤ) → T (fits binary32 (fin s m e)) → m * up e ≤ 16777215 * 2 ^ 104 * down e
unfolding fits
fit_bound s zero e h = rw (zero-mul (up e)) zero-le
fit_bound s (suc m) e h =
    let a : Bool = eqb (suc m % 2) 1 in
    let b : Bool = ltb (suc m) (2 ^ 24) in
    let c : Bool = leb (down e) (2 ^ 149) in
    let d : Bool = ltb (suc m * up e) (2 ^ 128 * down e) in
    bound (suc m) e (ltb→lt (suc m) (2 ^ 24) (and_r a b (and_l (a && b) c (and_l (a && b && c) d h)))) (ltb→lt (suc m * up e) (2 ^ 128 * down e) (and_r (a && b && c) d h))

-- a magnitude at most the other: less, or the same
at_most : (a b : ℕ) → a ≤ b → (t : Bool) → ltb a b ≡ t → ((ltb a b || (eqb a b && true)) ≡ true) × ((ltb a b || (eqb b a && true)) ≡ true)
at_most a b h true e = (rw e, rw e)
at_most a b h false e =
    let l = ltb-false a b e in
    let q : a ≡ b = omega arith in
    (rw (e, eq-eqb a b q), rw (e, eq-eqb b a (sym q)))

both_true : {a b : Bool} → a ≡ true → b ≡ true → (a && b) ≡ true
both_true e f = rw (e, f)

either_true : (a b : Bool) → a ≡ true → (a || b) ≡ true
either_true a b e = rw e

-- the largest is above 0 in any unit
some_left : (a b : ℕ) → 0 < b → ltb 0 (a + b) ≡ true
some_left a b h = lt-ltb 0 (a + b) (omega arith)

some_right : (a b : ℕ) → 0 < b → ltb 0 (b + a) ≡ true
some_right a b h = lt-ltb 0 (b + a) (omega arith)

largest_pos : (e : ℤ) → 0 < 16777215 * 2 ^ 104 * down e
largest_pos e = mul-pos (lit< tt) (down_pos e)

pub finite_is : (y : Float) → T (fits binary32 y) → is_finite y ≡ finite y
unfolding is_finite in_range le lt eq of_bits
finite_is nan h = refl
finite_is (inf true) h = refl
finite_is (inf false) h = refl
finite_is (fin true m e) h =
    let w : m * up e * 1 ≤ 16777215 * 2 ^ 104 * down e = rw (mul-one (m * up e)) (fit_bound true m e h) in
    both_true (at_most (m * up e * 1) (16777215 * 2 ^ 104 * down e) w _ refl).1 (either_true _ _ (some_left (m * up e * 1) (16777215 * 2 ^ 104 * down e) (largest_pos e)))
finite_is (fin false m e) h =
    let w : m * up e * 1 ≤ 16777215 * 2 ^ 104 * down e = rw (mul-one (m * up e)) (fit_bound false m e h) in
    both_true (either_true _ _ (some_right (m * up e * 1) (16777215 * 2 ^ 104 * down e) (largest_pos e))) (at_most (m * up e * 1) (16777215 * 2 ^ 104 * down e) w _ refl).0
