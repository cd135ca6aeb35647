-- The order of floats, as far as larger and smaller lean on it.
-- A NaN is below nothing and nothing is below a NaN; everything else stands in one line, in which +0 and -0 share a place. Assumes nothing.
use Rattle.std.specs.Prelude.{◌≡◌, refl, Bool, true, false, not, ◌&&◌, cond, ℕ, ◌+◌, ◌*◌, ◌<◌, ltb, Float}
use Rattle.std.proofs.Common.{sym, ap, ◌∙◌, true≢false, zero-mul, add-mul, mul_right_comm, mul-le-mul_right, mul-lt-mul_of_pos_right, arith, ltb-true, ltb-false, lt-ltb, le-ltb}
use Rattle.std.specs.Float.{nan, inf, fin}
use Rattle.std.specs.Float.Ieee.{up, down, below, lt, is_nan}
use Rattle.std.specs.Float.Ieee.Fits.{down_pos}
use Rattle.util.specs.Math.{larger, smaller}

-- ---- which of the two it is

pub larger_second : (a b : Float) → lt a b ≡ true → b ≡ larger a b
unfolding larger
larger_second a b e = rw (e)

pub larger_first : (a b : Float) → lt a b ≡ false → a ≡ larger a b
unfolding larger
larger_first a b e = rw (e)

pub smaller_second : (a b : Float) → lt b a ≡ true → b ≡ smaller a b
unfolding smaller
smaller_second a b e = rw (e)

pub smaller_first : (a b : Float) → lt b a ≡ false → a ≡ smaller a b
unfolding smaller
smaller_first a b e = rw (e)

-- ---- signed numbers: a sign and a magnitude

-- a common factor does not change which of two is less
ltb_scaled : (a b k : ℕ) → 0 < k → ltb (a * k) (b * k) ≡ ltb a b
ltb_scaled a b k h = go (ltb a b) refl
  where
    go : (t : Bool) → ltb a b ≡ t → ltb (a * k) (b * k) ≡ t
    go true e = lt-ltb (a * k) (b * k) (mul-lt-mul_of_pos_right (ltb-true a b e) h)
    go false e = le-ltb (a * k) (b * k) (mul-le-mul_right k (ltb-false a b e))

below_scaled : (s : Bool) (a : ℕ) (t : Bool) (b k : ℕ) → 0 < k → below s (a * k) t (b * k) ≡ below s a t b
below_scaled false a false b k h = ltb_scaled a b k h
below_scaled false a true b k h = refl
below_scaled true a false b k h =
    ap (ltb 0) (sym (add-mul a b k)) ∙ ap (λ (z : ℕ). ltb z ((a + b) * k)) (sym (zero-mul k)) ∙ ltb_scaled 0 (a + b) k h
below_scaled true a true b k h = ltb_scaled b a k h

below_asym : (s : Bool) (a : ℕ) (t : Bool) (b : ℕ) → below s a t b ≡ true → below t b s a ≡ false
below_asym false a false b e =
    let h = ltb-true a b e in
    le-ltb b a (omega arith)
below_asym false a true b e = cc
below_asym true a false b e = refl
below_asym true a true b e =
    let h = ltb-true b a e in
    le-ltb a b (omega arith)

below_none : (s : Bool) (a : ℕ) (t : Bool) (b : ℕ) (u : Bool) (c : ℕ) → below s a t b ≡ false → below t b u c ≡ false → below s a u c ≡ false
below_none false a false b false c e d =
    let h = ltb-false a b e in
    let g = ltb-false b c d in
    le-ltb a c (omega arith)
below_none false a false b true c e d = refl
below_none false a true b false c e d =
    let g = ltb-false 0 (b + c) d in
    le-ltb a c (omega arith)
below_none false a true b true c e d = refl
below_none true a false b false c e d =
    let h = ltb-false 0 (a + b) e in
    let g = ltb-false b c d in
    le-ltb 0 (a + c) (omega arith)
below_none true a false b true c e d =
    let h = ltb-false 0 (a + b) e in
    le-ltb c a (omega arith)
below_none true a true b false c e d =
    let h = ltb-false b a e in
    let g = ltb-false 0 (b + c) d in
    le-ltb 0 (a + c) (omega arith)
below_none true a true b true c e d =
    let h = ltb-false b a e in
    let g = ltb-false c b d in
    le-ltb c a (omega arith)

-- ---- floats

sign_asym : (s t : Bool) → s && not t ≡ true → t && not s ≡ false
sign_asym true true e = refl
sign_asym true false e = refl
sign_asym false t e = cc

-- of two floats at most one is less than the other
pub lt_asym : (a b : Float) → lt a b ≡ true → lt b a ≡ false
unfolding lt
lt_asym nan b e = cc
lt_asym (inf s) nan e = cc
lt_asym (inf s) (inf t) e = sign_asym s t e
lt_asym (inf s) (fin t n d) e = rw (e)
lt_asym (fin s m g) nan e = cc
lt_asym (fin s m g) (inf true) e = cc
lt_asym (fin s m g) (inf false) e = refl
lt_asym (fin s m g) (fin t n d) e = below_asym s (m * up g * down d) t (n * up d * down g) e

-- what is less than something, and what something is less than, is a number
pub lt_number : (a b : Float) → lt a b ≡ true → is_nan b ≡ false
unfolding lt is_nan
lt_number nan b e = cc
lt_number (inf s) nan e = sym e
lt_number (inf s) (inf t) e = refl
lt_number (inf s) (fin t n d) e = refl
lt_number (fin s m g) nan e = sym e
lt_number (fin s m g) (inf t) e = refl
lt_number (fin s m g) (fin t n d) e = refl

pub number_lt : (a b : Float) → lt a b ≡ true → is_nan a ≡ false
unfolding lt is_nan
number_lt nan b e = sym e
number_lt (inf s) b e = refl
number_lt (fin s m g) b e = refl

sign_none : (s t u : Bool) → s && not t ≡ false → t && not u ≡ false → s && not u ≡ false
sign_none false t u e d = refl
sign_none true true u e d = d
sign_none true false u e d = cc

flat : (s t : Bool) → s && not t ≡ false → t ≡ false → s ≡ false
flat false t e d = refl
flat true true e d = d
flat true false e d = e

-- no step up to a number and no step up from it is no step up
pub lt_none : (a b c : Float) → is_nan b ≡ false → lt a b ≡ false → lt b c ≡ false → lt a c ≡ false
unfolding lt is_nan
lt_none nan b c n e d = refl
lt_none (inf s) nan c n e d = cc
lt_none (inf s) (inf t) nan n e d = refl
lt_none (inf s) (inf t) (inf u) n e d = sign_none s t u e d
lt_none (inf s) (inf t) (fin u l f) n e d = flat s t e d
lt_none (inf s) (fin t k h) nan n e d = refl
lt_none (inf s) (fin t k h) (inf u) n e d = rw (e)
lt_none (inf s) (fin t k h) (fin u l f) n e d = e
lt_none (fin s m g) nan c n e d = cc
lt_none (fin s m g) (inf t) nan n e d = refl
lt_none (fin s m g) (inf true) (inf u) n e d = d
lt_none (fin s m g) (inf false) (inf u) n e d = cc
lt_none (fin s m g) (inf true) (fin u l f) n e d = cc
lt_none (fin s m g) (inf false) (fin u l f) n e d = cc
lt_none (fin s m g) (fin t k h) nan n e d = refl
lt_none (fin s m g) (fin t k h) (inf u) n e d = d
lt_none (fin s m g) (fin t k h) (fin u l f) n e d =
    let x = m * up g in
    let y = k * up h in
    let z = l * up f in
    let p : below s (x * down h * down f) t (y * down g * down f) ≡ false = below_scaled s (x * down h) t (y * down g) (down f) (down_pos f) ∙ e in
    let q : below t (y * down g * down f) u (z * down h * down g) ≡ false =
    ap (λ (v : ℕ). below t v u (z * down h * down g)) (mul_right_comm y (down g) (down f))
    ∙ below_scaled t (y * down f) u (z * down h) (down g) (down_pos g)
    ∙ d in
    sym (below_scaled s (x * down f) u (z * down g) (down h) (down_pos h))
    ∙ ap (λ (v : ℕ). below s v u (z * down g * down h)) (mul_right_comm x (down f) (down h))
    ∙ ap (λ (v : ℕ). below s (x * down h * down f) u v) (mul_right_comm z (down g) (down h))
    ∙ below_none s (x * down h * down f) t (y * down g * down f) u (z * down h * down g) p q

-- less than what is less
pub lt_trans : (a b c : Float) → lt a b ≡ true → lt b c ≡ true → lt a c ≡ true
lt_trans a b c e d = go (lt a c) refl
  where
    go : (t : Bool) → lt a c ≡ t → lt a c ≡ true
    go true g = g
    go false g = absurd (true≢false (sym e ∙ lt_none a c b (lt_number b c d) g (lt_asym b c d)))

-- ---- the first of the best, for any test of being better

-- of three, taken from the left or from the right
best_assoc : (R : Float → Float → Bool) (a b c : Float)
    → (R a b ≡ true → R b c ≡ true → R a c ≡ true)
    → (R a b ≡ false → R b c ≡ false → R a c ≡ false)
    → cond (R (cond (R a b) b a) c) c (cond (R a b) b a) ≡ cond (R a (cond (R b c) c b)) (cond (R b c) c b) a
best_assoc R a b c up none = go (R a b) (R b c) refl refl
  where
    go : (p q : Bool) → R a b ≡ p → R b c ≡ q → cond (R (cond (R a b) b a) c) c (cond (R a b) b a) ≡ cond (R a (cond (R b c) c b)) (cond (R b c) c b) a
    go true true e d = rw (e, d, up e d)
    go true false e d = rw (e, d, e)
    go false true e d = rw (e, d)
    go false false e d = rw (e, d, none e d, e)

-- of two, in either order: exactly where neither being better makes them one
best_comm : (R : Float → Float → Bool) (a b : Float) → (R a b ≡ true → R b a ≡ false) → (R a b ≡ false → R b a ≡ false → a ≡ b) → cond (R a b) b a ≡ cond (R b a) a b
best_comm R a b one tied = go (R a b) (R b a) refl refl
  where
    go : (p q : Bool) → R a b ≡ p → R b a ≡ q → cond (R a b) b a ≡ cond (R b a) a b
    go true q e d = rw (e, one e)
    go false true e d = rw (e, d)
    go false false e d = rw (e, d, tied e d)

-- the middle one is a number: with a NaN there, larger 0 (larger NaN 1) is 0 and larger (larger 0 NaN) 1 is 1
pub larger_assoc : (a b c : Float) → is_nan b ≡ false → larger (larger a b) c ≡ larger a (larger b c)
unfolding larger
larger_assoc a b c n = best_assoc lt a b c (lt_trans a b c) (lt_none a b c n)

pub smaller_assoc : (a b c : Float) → is_nan b ≡ false → smaller (smaller a b) c ≡ smaller a (smaller b c)
unfolding smaller
smaller_assoc a b c n = best_assoc (λ (x y : Float). lt y x) a b c (λ e d. lt_trans c b a d e) (λ e d. lt_none c b a n d e)

-- two floats of which neither is less are one: so, two numbers that are not +0 and -0
abbrev pub Settled : Float → Float → Type 0
Settled a b = lt a b ≡ false → lt b a ≡ false → a ≡ b

pub larger_comm : (a b : Float) → Settled a b → larger a b ≡ larger b a
unfolding larger
larger_comm a b s = best_comm lt a b (lt_asym a b) s

pub smaller_comm : (a b : Float) → Settled a b → smaller a b ≡ smaller b a
unfolding smaller
smaller_comm a b s = best_comm (λ (x y : Float). lt y x) a b (lt_asym b a) (λ e d. s d e)

-- and nothing less will do
pub larger_settled : (a b : Float) → larger a b ≡ larger b a → Settled a b
unfolding larger
larger_settled a b q e d = cc

pub smaller_settled : (a b : Float) → smaller a b ≡ smaller b a → Settled a b
unfolding smaller
smaller_settled a b q e d = cc
