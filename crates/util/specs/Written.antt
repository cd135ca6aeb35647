-- A float of a format is written in one way, so that two of them of which neither is less are one, but for NaN and -0. Assumes nothing.
use Rattle.std.specs.Prelude.{◌≡◌, refl, Bool, true, false, not, ◌&&◌, ℕ, zero, suc, ◌+◌, ◌*◌, ◌^◌, ◌%◌, ◌<◌, T, eqb, ltb, leb, ℤ, pos, negsuc, Float}
use Rattle.std.proofs.Common.{sym, ap, ◌∙◌, subst, zero-mul, zero-lt-suc, lt_irrefl, le_antisymm, mul-one, mul_assoc, mul_left_comm, mul-pos, pow-suc, arith, eqb→eq, pow-add, pow_pos, ltb-false}
use Rattle.std.proofs.Math.Nat.{pow-succ', eq_of_mul-eq-mul_right}
use Rattle.std.specs.Float.{nan, inf, fin, Format}
use Rattle.std.specs.Float.Ieee.{prec, emax, low, up, down, lt, fits}
use Rattle.std.specs.Float.Ieee.Fits.{up_pos, down_pos, and_l}
use Rattle.util.specs.Order.{Settled}

-- ---- an odd number times a power of two

even_odd : (m t : ℕ) → m % 2 ≡ 1 → m ≡ 2 * t → ⊥
even_odd m t o h = omega arith

odd_once : (m n a b : ℕ) → m % 2 ≡ 1 → n % 2 ≡ 1 → m * 2 ^ a ≡ n * 2 ^ b → (m ≡ n) × (a ≡ b)
odd_once m n zero zero o p h = (sym (mul-one m) ∙ h ∙ mul-one n, refl)
odd_once m n zero (suc b) o p h = absurd (even_odd m (n * 2 ^ b) o (sym (mul-one m) ∙ h ∙ ap (λ (x : ℕ). n * x) (pow-succ' 2 b) ∙ mul_left_comm n 2 (2 ^ b)))
odd_once m n (suc a) zero o p h = absurd (even_odd n (m * 2 ^ a) p (sym (mul-one n) ∙ sym h ∙ ap (λ (x : ℕ). m * x) (pow-succ' 2 a) ∙ mul_left_comm m 2 (2 ^ a)))
odd_once m n (suc a) (suc b) o p h =
    let q : m * 2 ^ a * 2 ≡ n * 2 ^ b * 2 = mul_assoc m (2 ^ a) 2 ∙ ap (λ (x : ℕ). m * x) (sym (pow-suc 2 a)) ∙ h ∙ ap (λ (x : ℕ). n * x) (pow-suc 2 b) ∙ sym (mul_assoc n (2 ^ b) 2) in
    let r = odd_once m n a b o p (eq_of_mul-eq-mul_right 2 (zero-lt-suc 1) (m * 2 ^ a) (n * 2 ^ b) q) in
    (r.0, ap suc r.1)

-- an exponent as two powers of two, one above and one below the line
abbrev above : ℤ → ℕ
above (pos k) = k
above (negsuc k) = 0

abbrev under : ℤ → ℕ
under (pos k) = 0
under (negsuc k) = suc k

up_is : (e : ℤ) → up e ≡ 2 ^ above e
up_is (pos k) = refl
up_is (negsuc k) = refl

down_is : (e : ℤ) → down e ≡ 2 ^ under e
down_is (pos k) = refl
down_is (negsuc k) = refl

powers : (m : ℕ) (e d : ℤ) → m * up e * down d ≡ m * 2 ^ (above e + under d)
powers m e d = rw (up_is e, down_is d) (mul_assoc m (2 ^ above e) (2 ^ under d) ∙ ap (λ (x : ℕ). m * x) (sym (pow-add 2 (above e) (under d))))

exponents : (e d : ℤ) → above e + under d ≡ above d + under e → e ≡ d
exponents (pos a) (pos b) h = ap pos (omega arith)
exponents (pos a) (negsuc b) h = absurd (omega arith)
exponents (negsuc a) (pos b) h = absurd (omega arith)
exponents (negsuc a) (negsuc b) h = ap negsuc (omega arith)

-- ---- what fits a format

is_odd : (f : Format) (s : Bool) (m : ℕ) (e : ℤ) → T (fits f (fin s (suc m) e)) → suc m % 2 ≡ 1
unfolding fits
is_odd f s m e t =
    let a = eqb (suc m % 2) 1 in
    let b = a && ltb (suc m) (2 ^ prec f) in
    let c = b && leb (down e) (2 ^ low f) in
    eqb→eq (suc m % 2) 1 (and_l a (ltb (suc m) (2 ^ prec f)) (and_l b (leb (down e) (2 ^ low f)) (and_l c (ltb (suc m * up e) (2 ^ suc (emax f) * down e)) t)))

flat : (e : ℤ) → up e * down e ≡ 1 → e ≡ pos 0
flat (pos zero) h = refl
flat (pos (suc k)) h =
    let q = pow-succ' 2 k in
    let p = pow_pos k in
    absurd (omega arith)
flat (negsuc k) h =
    let q = pow-succ' 2 k in
    let p = pow_pos k in
    absurd (omega arith)

zero_flat : (f : Format) (s : Bool) (e : ℤ) → T (fits f (fin s zero e)) → e ≡ pos 0
unfolding fits
zero_flat f s e t = flat e (eqb→eq (up e * down e) 1 t)

size_pos : (m : ℕ) (e d : ℤ) → 0 < suc m * up e * down d
size_pos m e d = mul-pos (mul-pos (zero-lt-suc m) (up_pos e)) (down_pos d)

size_zero : (e d : ℤ) → zero * up e * down d ≡ 0
size_zero e d = rw (zero-mul (up e), zero-mul (down d))

not_both : (m : ℕ) (e d : ℤ) (x : ℕ) → x ≡ 0 → x ≡ suc m * up e * down d → ⊥
not_both m e d x z q = lt_irrefl 0 (subst (λ (y : ℕ). 0 < y) (sym q ∙ z) (size_pos m e d))

-- one sign and one size: one float
once : (f : Format) (s : Bool) (m : ℕ) (e : ℤ) (n : ℕ) (d : ℤ) → T (fits f (fin s m e)) → T (fits f (fin s n d)) → m * up e * down d ≡ n * up d * down e → fin s m e ≡ fin s n d
once f s zero e zero d p q h = ap (fin s zero) (zero_flat f s e p ∙ sym (zero_flat f s d q))
once f s zero e (suc n) d p q h = absurd (not_both n d e _ (size_zero e d) h)
once f s (suc m) e zero d p q h = absurd (not_both m e d _ (size_zero d e) (sym h))
once f s (suc m) e (suc n) d p q h =
    let r = odd_once (suc m) (suc n) (above e + under d) (above d + under e) (is_odd f s m e p) (is_odd f s n d q) (sym (powers (suc m) e d) ∙ h ∙ powers (suc n) d e) in
    rw (r.0, exponents e d r.1)

-- ---- neither less

-- a number, and not -0
abbrev pub plain : Float → Bool
plain nan = false
plain (inf s) = true
plain (fin true zero e) = false
plain (fin true (suc m) e) = true
plain (fin false m e) = true

one_sign : (s t : Bool) → s && not t ≡ false → t && not s ≡ false → s ≡ t
one_sign true true e d = refl
one_sign true false e d = e
one_sign false true e d = sym d
one_sign false false e d = refl

no_room : (m : ℕ) (e d : ℤ) (b : ℕ) → ltb 0 (suc m * up e * down d + b) ≡ false → ⊥
no_room m e d b h =
    let p = size_pos m e d in
    let q = ltb-false 0 (suc m * up e * down d + b) h in
    lt_irrefl 0 (omega arith)

pub settled : (f : Format) (a b : Float) → T (fits f a) → T (fits f b) → plain a ≡ true → plain b ≡ true → Settled a b
unfolding lt
settled f nan b p q v w e g = cc
settled f (inf s) nan p q v w e g = cc
settled f (inf s) (inf t) p q v w e g = ap inf (one_sign s t e g)
settled f (inf true) (fin t n d) p q v w e g = cc
settled f (inf false) (fin t n d) p q v w e g = cc
settled f (fin s m k) nan p q v w e g = cc
settled f (fin s m k) (inf true) p q v w e g = cc
settled f (fin s m k) (inf false) p q v w e g = cc
settled f (fin false m k) (fin false n d) p q v w e g = once f false m k n d p q (le_antisymm (ltb-false _ _ g) (ltb-false _ _ e))
settled f (fin false m k) (fin true zero d) p q v w e g = cc
settled f (fin false m k) (fin true (suc n) d) p q v w e g = absurd (no_room n d k _ g)
settled f (fin true zero k) (fin false n d) p q v w e g = cc
settled f (fin true (suc m) k) (fin false n d) p q v w e g = absurd (no_room m k d _ e)
settled f (fin true m k) (fin true n d) p q v w e g = once f true m k n d p q (le_antisymm (ltb-false _ _ e) (ltb-false _ _ g))
