-- Numbers that equal 0: +0 and -0.
use Rattle.std.specs.Prelude.{◌≡◌, refl, Bool, true, false, ◌&&◌, ◌||◌, ℕ, suc, ◌+◌, ◌*◌, ◌-◌, ◌<◌, eqb, Float}
use Rattle.std.proofs.Common.{sym, ap, subst, ◌∙◌, true≢false, zero-mul, mul-one, mul-pos, arith, pow_pos, ltb-false, le-ltb, eqb-true, eq-eqb}
use Rattle.std.specs.Bool.{beq}
use Rattle.std.proofs.Math.Nat.{eq_of_mul-eq-mul_right}
use Rattle.std.specs.Float.{nan, inf, fin, binary32}
use Rattle.std.specs.Float.Ieee.{up, down, lt, eq, add, sum, round, is_nan, of_bits, low, emax}
use Rattle.std.specs.Float.Ieee.Fits.{down_pos}
use Rattle.std.specs.Float.Ieee.Exact.{HasValue, round_exact}
use Rattle.geometry.specs.Geometry.{zero_f}

abbrev pub Zero : Float → Type 0
Zero nan = ⊥
Zero (inf s) = ⊥
Zero (fin s m e) = m * up e ≡ 0

and_left : (a b : Bool) → (a && b) ≡ true → a ≡ true
and_left true b e = refl
and_left false b e = e

nil : (e : ℕ) → 0 * 1 * e ≡ 0
nil e = zero-mul e

pub eq_zero : (x : Float) → eq x zero_f ≡ true → Zero x
unfolding eq of_bits
eq_zero nan e = true≢false (sym e)
eq_zero (inf s) e = true≢false (sym e)
eq_zero (fin s m d) e = sym (mul-one (m * up d)) ∙ eqb-true (m * up d * 1) (0 * 1 * down d) (and_left _ _ e) ∙ nil (down d)

pub zero_eq : (x : Float) → Zero x → eq x zero_f ≡ true
unfolding eq of_bits
zero_eq nan z = absurd z
zero_eq (inf s) z = absurd z
zero_eq (fin s m d) z =
    let a : m * up d * 1 ≡ 0 = mul-one (m * up d) ∙ z in
    let b : eqb (m * up d * 1) (0 * 1 * down d) ≡ true = eq-eqb _ _ (a ∙ sym (nil (down d))) in
    let c : eqb (m * up d * 1) 0 ≡ true = eq-eqb _ _ a in
    rw (b, c) (last s)
  where
    last : (s : Bool) → (true && (beq s false || true)) ≡ true
    last true = refl
    last false = refl

pub zero_number : (x : Float) → Zero x → is_nan x ≡ false
unfolding is_nan
zero_number nan z = absurd z
zero_number (inf s) z = absurd z
zero_number (fin s m d) z = refl

pub zero_above : (x : Float) → Zero x → lt zero_f x ≡ false
unfolding lt of_bits
zero_above nan z = absurd z
zero_above (inf s) z = absurd z
zero_above (fin true m d) z = refl
zero_above (fin false m d) z =
    let a = mul-one (m * up d) ∙ z in
    let b = nil (down d) in
    le-ltb (0 * 1 * down d) (m * up d * 1) (omega (arith, a, b))

pub zero_below : (x : Float) → Zero x → lt x zero_f ≡ false
unfolding lt of_bits
zero_below nan z = absurd z
zero_below (inf s) z = absurd z
zero_below (fin true m d) z =
    let a = mul-one (m * up d) ∙ z in
    let b = nil (down d) in
    le-ltb 0 (m * up d * 1 + 0 * 1 * down d) (omega (arith, a, b))
zero_below (fin false m d) z =
    let b = nil (down d) in
    le-ltb (m * up d * 1) (0 * 1 * down d) (omega (arith, b))

-- what is neither above nor below 0 nor a NaN
pub zero_of : (x : Float) → is_nan x ≡ false → lt zero_f x ≡ false → lt x zero_f ≡ false → Zero x
unfolding lt is_nan of_bits
zero_of nan n a b = true≢false n
zero_of (inf true) n a b = true≢false b
zero_of (inf false) n a b = true≢false a
zero_of (fin true m d) n a b =
    let h = ltb-false 0 (m * up d * 1 + 0 * 1 * down d) b in
    let k = mul-one (m * up d) in
    omega (arith, h, k)
zero_of (fin false m d) n a b =
    let h = ltb-false (0 * 1 * down d) (m * up d * 1) a in
    let k = mul-one (m * up d) in
    let l = nil (down d) in
    omega (arith, h, k, l)

has_zero : (x : Float) (s : Bool) (c : ℕ) → 0 < c → HasValue x s 0 c → Zero x
has_zero nan s c p h = h
has_zero (inf t) s c p h = h
has_zero (fin t m e) s c p h = eq_of_mul-eq-mul_right c p (m * up e) 0 (h.1 ∙ zero-mul (down e) ∙ sym (zero-mul c))

zero_round : (s : Bool) (c : ℕ) → 0 < c → Zero (round binary32 s 0 c)
zero_round s c p = has_zero (round binary32 s 0 c) s c p (round_exact binary32 s 0 c 0 0 p (pow_pos 24) (pow_pos (low binary32 + suc (emax binary32))) (sym (zero-mul c)))

pub zero_add : (x y : Float) → Zero x → Zero y → Zero (add binary32 x y)
unfolding add sum
zero_add nan y z w = absurd z
zero_add (inf s) y z w = absurd z
zero_add (fin s m e) nan z w = absurd w
zero_add (fin s m e) (inf t) z w = absurd w
zero_add (fin s m e) (fin t n d) z w =
    let a : 0 ≡ m * up e * down d = sym (ap (λ (k : ℕ). k * down d) z ∙ zero-mul (down d)) in
    let b : 0 ≡ n * up d * down e = sym (ap (λ (k : ℕ). k * down e) w ∙ zero-mul (down e)) in
    subst (λ (k : ℕ). Zero (sum binary32 s k t (n * up d * down e) (down e * down d))) a (subst (λ (k : ℕ). Zero (sum binary32 s 0 t k (down e * down d))) b (go s t))
  where
    go : (s t : Bool) → Zero (sum binary32 s 0 t 0 (down e * down d))
    go true true = zero_round true (down e * down d) (mul-pos (down_pos e) (down_pos d))
    go true false = zero_round false (down e * down d) (mul-pos (down_pos e) (down_pos d))
    go false true = zero_round false (down e * down d) (mul-pos (down_pos e) (down_pos d))
    go false false = zero_round false (down e * down d) (mul-pos (down_pos e) (down_pos d))
