-- A sum is not less than its first part where what is added is not below 0: rounding keeps the order. Assumes nothing.
use Rattle.std.specs.Prelude.{◌≡◌, Bool, cond, not, ◌&&◌, ◌||◌, ℕ, zero, suc, ◌+◌, ◌-◌, ◌*◌, ◌^◌, ◌%◌, ◌≤◌, ◌<◌, T, ltb, leb, eqb, ℤ, pos, negsuc, Float}
use Rattle.std.proofs.Math.Path.{refl, ap}
use Rattle.std.proofs.Common.{sym, subst, ◌∙◌, true≢false, zero-le, zero-mul, one-mul, mul-one, add-zero, mul-pos, mul_comm, mul_assoc, mul_right_comm, mul-lt-mul_of_pos_right, lt_of_mul-lt-mul_right, le_of_suc-le-suc, lt_of_not-le, lt_irrefl, lt_of_lt_of_le, add_comm, mul-le-mul_right, ltb→lt, leb→le, pow-add, pow_pos, ltb-false, le-ltb, eqb-true}
use Rattle.std.proofs.Math.Bool.{true, false}
use Rattle.std.proofs.lemmas.Bool.{false≢true}
use Rattle.std.proofs.Math.Nat.{eq_of_mul-eq-mul_right}
use native.Mathlib.Omega.{arith}
use Rattle.std.proofs.Math.Pow.{pow-lt}
use Rattle.std.specs.Float.{nan, inf, fin, Format}
use Rattle.std.specs.Float.Ieee.{prec, emax, low, up, down, lt, le, eq, level, below, add, neg, sum, round, odd, units, fits, is_nan, of_bits}
use Rattle.std.specs.Float.Ieee.Digits.{back}
use Rattle.std.specs.Float.Ieee.Fits.{down_pos, and_l, and_r, round_is}
use Rattle.std.specs.Float.Ieee.Exact.{HasValue, round_exact}
use Rattle.std.specs.Float.Ieee.Order.{round_mono}
use Rattle.geometry.specs.Geometry.{zero_f}
use Rattle.util.specs.Order.{lt_asym, lt_none}

-- ---- a float of a format is what its own fraction rounds to

low_back : (a l : ℕ) → 2 ^ a ≤ 2 ^ l → a ≤ l
low_back a l h = le_of_suc-le-suc (lt_of_not-le (λ (g : suc l ≤ a). lt_irrefl (2 ^ l) (lt_of_lt_of_le (pow-lt g) h)))

step : (e : ℤ) (l : ℕ) → down e ≤ 2 ^ l → (j : ℕ) × (up e * 2 ^ l ≡ 2 ^ j * down e)
step (pos k) l h = (k + l, sym (pow-add 2 k l) ∙ sym (mul-one (2 ^ (k + l))))
step (negsuc k) l h = (l - suc k, one-mul (2 ^ l) ∙ sym (sym (pow-add 2 (l - suc k) (suc k)) ∙ ap (λ (x : ℕ). 2 ^ x) (back l (suc k) (low_back (suc k) l h))))

nothing : (e : ℤ) (k l : ℕ) → zero * up e * k * 2 ^ l ≡ 0 * 2 ^ 0 * (down e * k)
nothing e k l = rw (zero-mul (up e), zero-mul k, zero-mul (2 ^ l), zero-mul (down e * k))

pub round_own : (f : Format) (s : Bool) (m : ℕ) (e : ℤ) (k : ℕ) → 0 < k → T (fits f (fin s m e)) → HasValue (round f s (m * up e * k) (down e * k)) s (m * up e * k) (down e * k)
unfolding fits
round_own f s zero e k p t =
    round_exact f s (zero * up e * k) (down e * k) 0 0 (mul-pos (down_pos e) p) (pow_pos (prec f)) (pow_pos (low f + suc (emax f))) (nothing e k (low f))
round_own f s (suc m) e k p t =
    let l = low f in
    let a = eqb (suc m % 2) 1 in
    let b = a && ltb (suc m) (2 ^ prec f) in
    let c = b && leb (down e) (2 ^ l) in
    let t3 = and_l c (ltb (suc m * up e) (2 ^ suc (emax f) * down e)) t in
    let small = ltb→lt (suc m) (2 ^ prec f) (and_r a (ltb (suc m) (2 ^ prec f)) (and_l b (leb (down e) (2 ^ l)) t3)) in
    let dn = leb→le (down e) (2 ^ l) (and_r b (leb (down e) (2 ^ l)) t3) in
    let hi = ltb→lt (suc m * up e) (2 ^ suc (emax f) * down e) (and_r c (ltb (suc m * up e) (2 ^ suc (emax f) * down e)) t) in
    let st = step e l dn in
    let j = st.0 in
    let e1 : suc m * up e * 2 ^ l ≡ suc m * 2 ^ j * down e = mul_assoc (suc m) (up e) (2 ^ l) ∙ ap (λ (x : ℕ). suc m * x) st.1 ∙ sym (mul_assoc (suc m) (2 ^ j) (down e)) in
    let e2 : 2 ^ suc (emax f) * down e * 2 ^ l ≡ 2 ^ (l + suc (emax f)) * down e =
    mul_right_comm (2 ^ suc (emax f)) (down e) (2 ^ l) ∙ ap (λ (x : ℕ). x * down e) (mul_comm (2 ^ suc (emax f)) (2 ^ l) ∙ sym (pow-add 2 l (suc (emax f)))) in
    let w : suc m * 2 ^ j * down e < 2 ^ (l + suc (emax f)) * down e =
    subst (λ (x : ℕ). x < 2 ^ (l + suc (emax f)) * down e) e1 (subst (λ (x : ℕ). suc m * up e * 2 ^ l < x) e2 (mul-lt-mul_of_pos_right hi (pow_pos l))) in
    round_exact f s (suc m * up e * k) (down e * k) (suc m) j (mul-pos (down_pos e) p) small (lt_of_mul-lt-mul_right (down e) w)
    (mul_right_comm (suc m * up e) k (2 ^ l) ∙ ap (λ (x : ℕ). x * k) e1 ∙ mul_assoc (suc m * 2 ^ j) (down e) k)

pub own_value : (s : Bool) (m : ℕ) (e : ℤ) (k : ℕ) → HasValue (fin s m e) s (m * up e * k) (down e * k)
own_value s m e k = (refl, sym (mul_assoc (m * up e) (down e) k) ∙ mul_right_comm (m * up e) (down e) k)

level_none : (s : Bool) (a b : ℕ) → a ≡ b → below s a s b ≡ false
level_none false a b e = le-ltb a b (omega (arith, e))
level_none true a b e = le-ltb b a (omega (arith, e))

-- two of one value: neither is less
pub values_none : (x y : Float) (s : Bool) (a c : ℕ) → 0 < c → HasValue x s a c → HasValue y s a c → lt x y ≡ false
unfolding lt
values_none nan y s a c p u v = refl
values_none (inf t) y s a c p u v = absurd u
values_none (fin t m e) nan s a c p u v = refl
values_none (fin t m e) (inf r) s a c p u v = absurd v
values_none (fin t m e) (fin r n d) s a c p u v =
    let q : m * up e * down d * c ≡ n * up d * down e * c =
    mul_right_comm (m * up e) (down d) c ∙ ap (λ (x : ℕ). x * down d) u.1 ∙ mul_right_comm a (down e) (down d) ∙ sym (mul_right_comm (n * up d) (down e) c ∙ ap (λ (x : ℕ). x * down e) v.1) in
    rw (u.0, v.0) (level_none s (m * up e * down d) (n * up d * down e) (eq_of_mul-eq-mul_right c p (m * up e * down d) (n * up d * down e) q))

pub value_number : (x : Float) (s : Bool) (a c : ℕ) → HasValue x s a c → is_nan x ≡ false
unfolding is_nan
value_number nan s a c v = absurd v
value_number (inf t) s a c v = refl
value_number (fin t m e) s a c v = refl

-- ---- rounding and signs

odd_neg : (d q k l : ℕ) → odd d true q k l ≡ neg (odd d false q k l)
unfolding odd neg
odd_neg d zero k l = refl
odd_neg d (suc q) k l = refl

units_neg : (f : Format) (q k : ℕ) → units f true q k ≡ neg (units f false q k)
unfolding units
units_neg f q k = go (ltb (q * 2 ^ k) (2 ^ (low f + suc (emax f))))
  where
    go : (b : Bool) → cond b (odd (suc (prec f)) true q k (low f)) (inf true) ≡ neg (cond b (odd (suc (prec f)) false q k (low f)) (inf false))
    go true = odd_neg (suc (prec f)) q k (low f)
    go false = unfold neg in refl

pub round_neg : (f : Format) (a c : ℕ) → round f true a c ≡ neg (round f false a c)
round_neg f a c = round_is f true a c ∙ units_neg f _ _ ∙ sym (ap neg (round_is f false a c))

below_neg : (s : Bool) (a : ℕ) (t : Bool) (b : ℕ) → below (not s) a (not t) b ≡ below t b s a
below_neg false a false b = refl
below_neg false a true b = ap (ltb 0) (add_comm a b)
below_neg true a false b = refl
below_neg true a true b = refl

pub lt_neg : (x y : Float) → lt (neg x) (neg y) ≡ lt y x
unfolding lt neg
lt_neg nan nan = refl
lt_neg nan (inf t) = refl
lt_neg nan (fin t n d) = refl
lt_neg (inf s) nan = refl
lt_neg (inf true) (inf true) = refl
lt_neg (inf true) (inf false) = refl
lt_neg (inf false) (inf true) = refl
lt_neg (inf false) (inf false) = refl
lt_neg (inf s) (fin t n d) = refl
lt_neg (fin s m e) nan = refl
lt_neg (fin s m e) (inf true) = refl
lt_neg (fin s m e) (inf false) = refl
lt_neg (fin s m e) (fin t n d) = below_neg s (m * up e * down d) t (n * up d * down e)

-- no sign
abbrev pub Pos : Float → Type 0
Pos nan = Unit {0}
Pos (inf s) = s ≡ false
Pos (fin s m e) = s ≡ false

odd_pos : (d q k l : ℕ) → Pos (odd d false q k l)
unfolding odd
odd_pos d zero k l = refl
odd_pos d (suc q) k l = refl

units_pos : (f : Format) (q k : ℕ) → Pos (units f false q k)
unfolding units
units_pos f q k = go (ltb (q * 2 ^ k) (2 ^ (low f + suc (emax f))))
  where
    go : (b : Bool) → Pos (cond b (odd (suc (prec f)) false q k (low f)) (inf false))
    go true = odd_pos (suc (prec f)) q k (low f)
    go false = refl

pub round_pos : (f : Format) (a c : ℕ) → Pos (round f false a c)
round_pos f a c = subst Pos (sym (round_is f false a c)) (units_pos f _ _)

pub pos_none : (x : Float) (n : ℕ) (d : ℤ) → Pos x → lt x (fin true n d) ≡ false
unfolding lt
pos_none nan n d h = refl
pos_none (inf s) n d h = h
pos_none (fin true m e) n d h = absurd (true≢false h)
pos_none (fin false m e) n d h = refl

pub pos_zero : (x : Float) → Pos x → lt x zero_f ≡ false
unfolding lt of_bits
pos_zero nan h = refl
pos_zero (inf s) h = h
pos_zero (fin true m e) h = absurd (true≢false h)
pos_zero (fin false m e) h =
    let z = zero-mul (down e) in
    le-ltb (m * up e * 1) (0 * 1 * down e) (omega (arith, z))

pub lt_self : (x : Float) → lt x x ≡ false
lt_self x = go (lt x x) refl
  where
    go : (b : Bool) → lt x x ≡ b → lt x x ≡ false
    go true e = lt_asym x x e
    go false e = e

-- ---- not more is not less the other way

and_one : (a b : Bool) → (a && b) ≡ true → a ≡ true
and_one true b e = refl
and_one false b e = e

and_two : (a b : Bool) → (a && b) ≡ true → b ≡ true
and_two true b e = e
and_two false b e = absurd (false≢true e)

level_lt : (s : Bool) (a : ℕ) (t : Bool) (b : ℕ) → level s a t b ≡ true → below t b s a ≡ false
level_lt false a false b h =
    let q = eqb-true a b (and_one _ _ h) in
    le-ltb b a (omega (arith, q))
level_lt false a true b h =
    let q = eqb-true a b (and_one _ _ h) in
    let z = eqb-true a 0 (and_two (eqb a b) (eqb a 0) h) in
    le-ltb 0 (b + a) (omega (arith, q, z))
level_lt true a false b h = refl
level_lt true a true b h =
    let q = eqb-true a b (and_one _ _ h) in
    le-ltb a b (omega (arith, q))

eq_lt : (x y : Float) → eq x y ≡ true → lt y x ≡ false
unfolding eq lt
eq_lt nan y h = absurd (false≢true h)
eq_lt (inf s) nan h = refl
eq_lt (inf true) (inf true) h = refl
eq_lt (inf true) (inf false) h = refl
eq_lt (inf false) (inf true) h = absurd (false≢true h)
eq_lt (inf false) (inf false) h = refl
eq_lt (inf s) (fin t n d) h = absurd (false≢true h)
eq_lt (fin s m e) nan h = refl
eq_lt (fin s m e) (inf t) h = absurd (false≢true h)
eq_lt (fin s m e) (fin t n d) h = level_lt s (m * up e * down d) t (n * up d * down e) h

pub le_lt : (x y : Float) → T (le x y) → lt y x ≡ false
unfolding le
le_lt x y h = go (lt x y) (eq x y) refl refl h
  where
    go : (a b : Bool) → lt x y ≡ a → eq x y ≡ b → T (a || b) → lt y x ≡ false
    go true b e d t = lt_asym x y e
    go false true e d t = eq_lt x y d
    go false false e d t = absurd t

pub mono : (f : Format) (a b c : ℕ) → 0 < c → a ≤ b → lt (round f false b c) (round f false a c) ≡ false
mono f a b c p h = le_lt (round f false a c) (round f false b c) (round_mono f a c b c p p (mul-le-mul_right c h))

pub mono_neg : (f : Format) (a b c : ℕ) → 0 < c → a ≤ b → lt (round f true a c) (round f true b c) ≡ false
mono_neg f a b c p h = rw (round_neg f a c, round_neg f b c) (lt_neg (round f false a c) (round f false b c) ∙ mono f a b c p h)

-- ---- the sum

module _ (f : Format) (x : Float) (c : ℕ) (p : 0 < c) where
  sum_pos : (s : Bool) (a b : ℕ) → lt (round f s a c) x ≡ false → is_nan (round f s a c) ≡ false → (s ≡ true → (r : Float) → Pos r → lt r x ≡ false) → lt (sum f s a false b c) x ≡ false
  unfolding sum
  sum_pos false a b o n u = lt_none (round f false (a + b) c) (round f false a c) x n (mono f a (a + b) c p (omega arith)) o
  sum_pos true a b o n u = go (ltb a b)
    where
      go2 : (w : Bool) → lt (round f (true && w) (a - b) c) x ≡ false
      go2 true = lt_none (round f true (a - b) c) (round f true a c) x n (mono_neg f (a - b) a c p (omega arith)) o
      go2 false = u refl _ (round_pos f (a - b) c)

      go : (v : Bool) → lt (cond v (round f false (b - a) c) (round f (true && ltb b a) (a - b) c)) x ≡ false
      go true = u refl _ (round_pos f (b - a) c)
      go false = go2 (ltb b a)

  -- adding -0
  pub sum-none : (s : Bool) (a : ℕ) → sum f s a true 0 c ≡ round f s a c
  unfolding sum
  sum-none true a = ap (λ (z : ℕ). round f true z c) (add-zero a)
  sum-none false a =
      let z : a - 0 ≡ a = omega arith in
      rw (le-ltb a 0 zero-le) (ap (λ (k : ℕ). round f false k c) z)

pub size_none : (n : ℕ) (d : ℤ) (k : ℕ) → lt (fin true n d) zero_f ≡ false → n * up d * k ≡ 0
unfolding lt of_bits
size_none n d k h =
    let a = ltb-false 0 (n * up d * 1 + 0 * 1 * down d) h in
    let b = mul-one (n * up d) in
    let z : n * up d ≡ 0 = omega (arith, a, b) in
    ap (λ (x : ℕ). x * k) z ∙ zero-mul k

-- add-not-less: what is added is not below 0. A NaN or an infinity changes nothing: NaN is less than nothing.
pub add_not_less : (f : Format) (x y : Float) → T (fits f x) → lt y zero_f ≡ false → lt (add f x y) x ≡ false
unfolding lt add of_bits
add_not_less f nan y t h = refl
add_not_less f (inf s) nan t h = refl
add_not_less f (inf true) (inf true) t h = refl
add_not_less f (inf true) (inf false) t h = refl
add_not_less f (inf false) (inf true) t h = refl
add_not_less f (inf false) (inf false) t h = refl
add_not_less f (inf true) (fin r n d) t h = refl
add_not_less f (inf false) (fin r n d) t h = refl
add_not_less f (fin s m e) nan t h = refl
add_not_less f (fin s m e) (inf true) t h = absurd (true≢false h)
add_not_less f (fin s m e) (inf false) t h = refl
add_not_less f (fin s m e) (fin r n d) t h = go r h
  where
    own : lt (round f s (m * up e * down d) (down e * down d)) (fin s m e) ≡ false
    own = values_none (round f s (m * up e * down d) (down e * down d)) (fin s m e) s (m * up e * down d) (down e * down d) (mul-pos (down_pos e) (down_pos d)) (round_own f s m e (down d) (down_pos d) t) (own_value s m e (down d))

    num : is_nan (round f s (m * up e * down d) (down e * down d)) ≡ false
    num = value_number (round f s (m * up e * down d) (down e * down d)) s (m * up e * down d) (down e * down d) (round_own f s m e (down d) (down_pos d) t)

    under : (s : Bool) → s ≡ true → (r : Float) → Pos r → lt r (fin s m e) ≡ false
    under true q r v = pos_none r m e v
    under false q r v = absurd (false≢true q)

    go : (r : Bool) → lt (fin r n d) zero_f ≡ false → lt (sum f s (m * up e * down d) r (n * up d * down e) (down e * down d)) (fin s m e) ≡ false
    go false h = sum_pos f (fin s m e) (down e * down d) (mul-pos (down_pos e) (down_pos d)) s (m * up e * down d) (n * up d * down e) own num (under s)
    go true h =
        subst (λ (z : ℕ). lt (sum f s (m * up e * down d) true z (down e * down d)) (fin s m e) ≡ false) (sym (size_none n d (down e) h))
        (subst (λ (z : Float). lt z (fin s m e) ≡ false) (sym (sum-none f (fin s m e) (down e * down d) (mul-pos (down_pos e) (down_pos d)) s (m * up e * down d))) own)

pub nan_add : (f : Format) (x y z : Float) → is_nan x ≡ true → lt (add f x y) z ≡ false
unfolding is_nan add lt
nan_add f nan y z e = refl
nan_add f (inf s) y z e = absurd (false≢true e)
nan_add f (fin s m d) y z e = absurd (false≢true e)
