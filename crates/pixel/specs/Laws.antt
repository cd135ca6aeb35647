-- What the nearest whole pixel promises. Assumes nothing.
use Rattle.std.specs.Prelude.{◌≡◌, refl, Bool, true, false, ◌||◌, cond, ℕ, zero, suc, ◌+◌, ◌*◌, ◌-◌, ◌/◌, ◌^◌, ◌<◌, ◌≤◌, T, ltb, eqb, ℤ, pos, negsuc, neg_ℤ, ◌-ℤ◌, ◌*ℤ◌, Float}
use Rattle.std.proofs.Common.{sym, ap, ◌∙◌, subst, true≢false, zero-add, zero-mul, add-mul, mul_assoc, mul_comm, mul_right_comm, mul-pos, mul-div_cancel, mul-le-mul_right, mul-lt-mul_of_pos_right, le_of_lt, arith, le→leb, lt→ltb, leb→le, pow_pos, ltb-true, ltb-false, lt-ltb, le-ltb, eqb-true}
use Rattle.std.specs.Bool.{beq}
use Rattle.std.proofs.Math.Nat.{eq_of_mul-eq-mul_right, zero-div}
use Rattle.std.proofs.Math.Dec.{leb-suc-suc}
use Rattle.std.specs.Int.Signed.{lt_z, le_z, le_z_yes, lt_z_yes}
use Rattle.std.specs.Float.{nan, inf, fin, binary32}
use Rattle.std.specs.Float.Ieee.{up, down, below, lt, eq, le, fits, to_bits}
use Rattle.std.specs.Float.Ieee.Nearest.{div_same, div_mono}
use Rattle.std.specs.Float.Ieee.Fits.{down_pos}
use Rattle.limits.specs.Bools.{and_fst, and_snd}
use Rattle.limits.specs.Limits.{finite}
use Rattle.pixel.specs.Pixel.{size_of, signed, scaled, halves_up, whole_pixel, Near}
use Rattle.pixel.specs.Value.{field, digits, bulk, value}

-- ---- the scaled number is exact

pub exact : (s : Bool) (m : ℕ) (g : ℤ) → T (fits binary32 (fin s m g)) → m * up g * 2 ^ 149 ≡ size_of (fin s m g) * down g
unfolding size_of
exact s m g h =
    let b = to_bits binary32 (fin s m g) in
    let M = bulk (field b) (digits b) in
    let e : m * up g * 2 ^ 149 ≡ M * down g = (value (fin s m g) h refl).1 in
    e ∙ ap (λ (n : ℕ). n * down g) (sym (ap (λ (n : ℕ). n / down g) e ∙ mul-div_cancel M (down_pos g)))

-- ---- and keeps the order: a float is less exactly where its scaled number is

ltb_scaled : (a b k : ℕ) → 0 < k → ltb (a * k) (b * k) ≡ ltb a b
ltb_scaled a b k h = go (ltb a b) refl
  where
    go : (t : Bool) → ltb a b ≡ t → ltb (a * k) (b * k) ≡ t
    go true e = lt-ltb (a * k) (b * k) (mul-lt-mul_of_pos_right (ltb-true a b e) h)
    go false e = le-ltb (a * k) (b * k) (mul-le-mul_right k (ltb-false a b e))

below_scaled : (s : Bool) (a : ℕ) (t : Bool) (b k : ℕ) → 0 < k → below s (a * k) t (b * k) ≡ below s a t b
below_scaled false a false b k h = ltb_scaled a b k h
below_scaled false a true b k h = refl
below_scaled true a false b k h =
    ap (ltb 0) (sym (add-mul a b k)) ∙ ap (λ (z : ℕ). ltb z ((a + b) * k)) (sym (zero-mul k)) ∙ ltb_scaled 0 (a + b) k h
below_scaled true a true b k h = ltb_scaled b a k h

below_is : (s : Bool) (a : ℕ) (t : Bool) (b : ℕ) → below s a t b ≡ lt_z (signed s a) (signed t b)
below_is false a false b = refl
below_is false a true zero = sym (le-ltb a 0 (omega arith))
below_is false a true (suc b) = refl
below_is true zero false b = ap (ltb 0) (zero-add b)
below_is true (suc a) false b = lt-ltb 0 (suc a + b) (omega arith)
below_is true zero true zero = refl
below_is true zero true (suc b) = le-ltb (suc b) 0 (omega arith)
below_is true (suc a) true zero = lt-ltb 0 (suc a) (omega arith)
below_is true (suc a) true (suc b) = leb-suc-suc (suc b) a

-- both sizes over one denominator
over : (m S : ℕ) (g d : ℤ) (P : ℕ) → m * up g * P ≡ S * down g → m * up g * down d * P ≡ S * (down g * down d)
over m S g d P e = mul_right_comm (m * up g) (down d) P ∙ ap (λ (z : ℕ). z * down d) e ∙ mul_assoc S (down g) (down d)

pub scaled_lt : (x y : Float) → T (fits binary32 x) → T (fits binary32 y) → finite x ≡ true → finite y ≡ true → lt x y ≡ lt_z (scaled x) (scaled y)
unfolding lt scaled
scaled_lt nan y h k f i = absurd (true≢false (sym f))
scaled_lt (inf s) y h k f i = absurd (true≢false (sym f))
scaled_lt (fin s m g) nan h k f i = absurd (true≢false (sym i))
scaled_lt (fin s m g) (inf t) h k f i = absurd (true≢false (sym i))
scaled_lt (fin s m g) (fin t n d) h k f i =
    let a = m * up g * down d in
    let b = n * up d * down g in
    let S = size_of (fin s m g) in
    let U = size_of (fin t n d) in
    let W = down g * down d in
    let e : a * 2 ^ 149 ≡ S * W = over m S g d (2 ^ 149) (exact s m g h) in
    let j : b * 2 ^ 149 ≡ U * W = over n U d g (2 ^ 149) (exact t n d k) ∙ ap (λ (z : ℕ). U * z) (mul_comm (down d) (down g)) in
    sym (below_scaled s a t b (2 ^ 149) (pow_pos 149))
    ∙ ap (λ (z : ℕ). below s z t (b * 2 ^ 149)) e
    ∙ ap (λ (z : ℕ). below s (S * W) t z) j
    ∙ below_scaled s S t U W (mul-pos (down_pos g) (down_pos d))
    ∙ below_is s S t U

-- ---- equal numbers have one scaled number, +0 and -0 too; an infinity has the one of 0

-- one fraction, one quotient
one_size : (a b c d P : ℕ) → 0 < b → 0 < d → a * d ≡ c * b → a * P / b ≡ c * P / d
one_size a b c d P h k e = div_same (a * P) b (c * P) d h k (mul_right_comm a P d ∙ ap (λ (z : ℕ). z * P) e ∙ mul_right_comm c b P)

zero_size : (a b d P : ℕ) → 0 < d → a * d ≡ 0 → a * P / b ≡ 0
zero_size a b d P k e =
    let z : a ≡ 0 = eq_of_mul-eq-mul_right d k a 0 (e ∙ sym (zero-mul d)) in
    ap (λ (n : ℕ). n * P / b) z ∙ ap (λ (n : ℕ). n / b) (zero-mul P) ∙ zero-div b

one_number : (s t : Bool) (S : ℕ) (z : Bool) → (z ≡ true → S ≡ 0) → (beq s t || z) ≡ true → signed s S ≡ signed t S
one_number false false S z o e = refl
one_number true true S z o e = refl
one_number false true S z o e = ap (λ (n : ℕ). pos n) (o e) ∙ ap (λ (n : ℕ). neg_ℤ (pos n)) (sym (o e))
one_number true false S z o e = ap (λ (n : ℕ). neg_ℤ (pos n)) (o e) ∙ ap (λ (n : ℕ). pos n) (sym (o e))

no_size : (s t : Bool) → signed s 0 ≡ signed t 0
no_size s t = one_number s t 0 true (λ _. refl) (or_true s t)
  where
    or_true : (s t : Bool) → (beq s t || true) ≡ true
    or_true false false = refl
    or_true false true = refl
    or_true true false = refl
    or_true true true = refl

pub scaled_eq : (x y : Float) → eq x y ≡ true → scaled x ≡ scaled y
unfolding eq scaled size_of
scaled_eq nan y q = absurd (true≢false (sym q))
scaled_eq (inf s) nan q = absurd (true≢false (sym q))
scaled_eq (inf s) (inf t) q = no_size s t
scaled_eq (inf s) (fin t n d) q = absurd (true≢false (sym q))
scaled_eq (fin s m g) nan q = absurd (true≢false (sym q))
scaled_eq (fin s m g) (inf t) q = absurd (true≢false (sym q))
scaled_eq (fin s m g) (fin t n d) q =
    let a = m * up g in
    let c = n * up d in
    let ab : a * down d ≡ c * down g = eqb-true (a * down d) (c * down g) (and_fst (eqb (a * down d) (c * down g)) (beq s t || eqb (a * down d) 0) q) in
    let none : eqb (a * down d) 0 ≡ true → a * 2 ^ 149 / down g ≡ 0 = λ z. zero_size a (down g) (down d) (2 ^ 149) (down_pos d) (eqb-true (a * down d) 0 z) in
    one_number s t (a * 2 ^ 149 / down g) (eqb (a * down d) 0) none (and_snd (eqb (a * down d) (c * down g)) (beq s t || eqb (a * down d) 0) q)
    ∙ ap (signed t) (one_size a (down g) c (down d) (2 ^ 149) (down_pos g) (down_pos d) ab)

-- so edges that are equal numbers have one whole pixel
pub equal_alike : (x y : Float) → eq x y ≡ true → whole_pixel x ≡ whole_pixel y
unfolding whole_pixel
equal_alike x y q = ap halves_up (scaled_eq x y q)

-- ---- a greater edge has no lesser pixel

pub double : (M N H : ℕ) → M ≤ N → M + M + H ≤ N + N + H
double M N H h = omega arith

pub double_less : (M N H : ℕ) → M ≤ N → M + M + H - 1 ≤ N + N + H - 1
double_less M N H h = omega arith

pub neg_le : (a b : ℕ) → b ≤ a → T (le_z (neg_ℤ (pos a)) (neg_ℤ (pos b)))
neg_le zero zero h = tt
neg_le zero (suc b) h = absurd (no h)
  where
    no : suc b ≤ 0 → ⊥
    no l = omega arith
neg_le (suc a) zero h = tt
neg_le (suc a) (suc b) h = le→leb b a (omega arith)

pub neg_pos : (a b : ℕ) → T (le_z (neg_ℤ (pos a)) (pos b))
neg_pos zero b = le→leb 0 b (omega arith)
neg_pos (suc a) b = tt

pub two_le : {a b c d : ℤ} → a ≡ c → b ≡ d → T (le_z c d) → T (le_z a b)
two_le {a} {b} {c} {d} p q h = subst (λ (z : ℤ). T (le_z z b)) (sym p) (subst (λ (z : ℤ). T (le_z c z)) (sym q) h)

-- a lesser number has no greater scaled number
size_mono : (a b c d P : ℕ) → 0 < b → 0 < d → a * d < c * b → a * P / b ≤ c * P / d
size_mono a b c d P h k l =
    div_mono (a * P) b (c * P) d h k
    (subst (λ (z : ℕ). z ≤ c * P * b) (mul_right_comm a d P)
    (subst (λ (z : ℕ). a * d * P ≤ z) (mul_right_comm c b P) (mul-le-mul_right P (le_of_lt l))))

below_le : (s : Bool) (a b : ℕ) (t : Bool) (c d P : ℕ) → 0 < b → 0 < d → below s (a * d) t (c * b) ≡ true → T (le_z (signed s (a * P / b)) (signed t (c * P / d)))
below_le false a b false c d P h k e = le→leb (a * P / b) (c * P / d) (size_mono a b c d P h k (ltb-true (a * d) (c * b) e))
below_le false a b true c d P h k e = absurd (true≢false (sym e))
below_le true a b false c d P h k e = neg_pos (a * P / b) (c * P / d)
below_le true a b true c d P h k e = neg_le (a * P / b) (c * P / d) (size_mono c d a b P k h (ltb-true (c * b) (a * d) e))

pub lt_le : (x y : Float) → finite x ≡ true → finite y ≡ true → lt x y ≡ true → T (le_z (scaled x) (scaled y))
unfolding lt scaled size_of
lt_le nan y f i e = absurd (true≢false (sym f))
lt_le (inf s) y f i e = absurd (true≢false (sym f))
lt_le (fin s m g) nan f i e = absurd (true≢false (sym i))
lt_le (fin s m g) (inf t) f i e = absurd (true≢false (sym i))
lt_le (fin s m g) (fin t n d) f i e = below_le s (m * up g) (down g) t (n * up d) (down d) (2 ^ 149) (down_pos g) (down_pos d) e

pub or_of : (a b : Bool) {X : Type 0} → (a ≡ true → X) → (b ≡ true → X) → (a || b) ≡ true → X
or_of true b f g e = f refl
or_of false b f g e = g e

-- ---- the distance is at most a half: -H < 2 D ≤ H, where D is the whole pixel less the edge

low_neg : (H w : ℕ) → suc w < H → T (lt_z (neg_ℤ (pos H)) (negsuc w))
low_neg zero w h = absurd (no h)
  where
    no : suc w < 0 → ⊥
    no l = omega arith
low_neg (suc h) w l = lt→ltb w h (omega arith)

low_pos : (H w : ℕ) → 0 < w + H → T (lt_z (neg_ℤ (pos H)) (pos w))
low_pos zero w h = lt→ltb 0 w (omega arith)
low_pos (suc h) w l = tt

minus : (a b : ℕ) → pos a -ℤ pos b ≡ cond (ltb a b) (negsuc (b - suc a)) (pos (a - b))
minus a zero = sym (ap (λ (t : Bool). cond t (negsuc (0 - suc a)) (pos (a - 0))) (le-ltb a 0 (omega arith)) ∙ ap pos (same a))
  where
    same : (n : ℕ) → n - 0 ≡ n + 0
    same n = omega arith
minus a (suc b) = refl

pub near_of : (a b H : ℕ) → 2 * a ≤ 2 * b + H → 2 * b < 2 * a + H → Near (pos a -ℤ pos b) H
near_of a b H h k = subst (λ (z : ℤ). Near z H) (sym (minus a b)) (go (ltb a b) refl)
  where
    go : (t : Bool) → ltb a b ≡ t → Near (cond t (negsuc (b - suc a)) (pos (a - b))) H
    go true e =
        let l : a < b = ltb-true a b e in
        let z = b - suc a in
        (lt_z_yes (low_neg H (suc (z + z)) (omega arith)), le_z_yes tt)
    go false e =
        let l : b ≤ a = ltb-false a b e in
        let y = a - b in
        (lt_z_yes (low_pos H (y + y) (omega arith)), le_z_yes (le→leb (y + y) H (omega arith)))

pub times : (n H : ℕ) → neg_ℤ (pos n) *ℤ pos H ≡ neg_ℤ (pos (n * H))
times zero H = ap pos (zero-mul H) ∙ ap (λ (k : ℕ). neg_ℤ (pos k)) (sym (zero-mul H))
times (suc n) H = refl

-- ---- a far edge that is not below the near one leaves no negative size

pub sub_of_le : (a b : ℤ) → T (le_z a b) → T (le_z (pos 0) (b -ℤ a))
sub_of_le (pos a) (pos b) h = subst (λ (z : ℤ). T (le_z (pos 0) z)) (sym (minus b a)) (subst (λ (t : Bool). T (le_z (pos 0) (cond t (negsuc (a - suc b)) (pos (b - a))))) (sym (le-ltb b a (leb→le a b h))) (le→leb 0 (b - a) (omega arith)))
sub_of_le (pos a) (negsuc b) h = absurd h
sub_of_le (negsuc a) (pos b) h = le→leb 0 (b + suc a) (omega arith)
sub_of_le (negsuc a) (negsuc b) h =
    let l : suc b ≤ suc a = up_one b a (leb→le b a h) in
    subst (λ (t : Bool). T (le_z (pos 0) (cond t (negsuc (suc b - suc (suc a))) (pos (suc a - suc b))))) (sym (le-ltb (suc a) (suc b) l)) (le→leb 0 (suc a - suc b) (omega arith))
  where
    up_one : (i j : ℕ) → i ≤ j → suc i ≤ suc j
    up_one i j l = omega arith
