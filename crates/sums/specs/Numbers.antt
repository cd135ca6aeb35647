-- What is no NaN: what rounds, the sum of two finite numbers. Of two numbers, not less is not more the other way round. Assumes nothing.
use Rattle.std.specs.Prelude.{◌≡◌, refl, Bool, true, false, cond, ◌&&◌, ◌||◌, ℕ, zero, suc, ◌+◌, ◌-◌, ◌*◌, ◌^◌, ◌≤◌, ltb, eqb, Float}
use Rattle.std.proofs.Common.{sym, ap, ◌∙◌, true≢false, le_antisymm, arith, ltb-false, eq-eqb}
use Rattle.std.specs.Bool.{beq}
use Rattle.std.proofs.lemmas.Bool.{false≢true}
use Rattle.std.specs.Float.{nan, inf, fin, Format, binary32}
use Rattle.std.specs.Float.Ieee.{prec, emax, low, up, down, lt, le, eq, level, below, add, sum, round, odd, units, is_nan}
use Rattle.std.specs.Float.Ieee.Fits.{round_is}
use Rattle.limits.specs.Limits.{finite}

odd_number : (d : ℕ) (s : Bool) (q k l : ℕ) → is_nan (odd d s q k l) ≡ false
unfolding odd is_nan
odd_number d s zero k l = refl
odd_number d s (suc q) k l = refl

units_number : (f : Format) (s : Bool) (q k : ℕ) → is_nan (units f s q k) ≡ false
unfolding units is_nan
units_number f s q k = go (ltb (q * 2 ^ k) (2 ^ (low f + suc (emax f))))
  where
    go : (b : Bool) → is_nan (cond b (odd (suc (prec f)) s q k (low f)) (inf s)) ≡ false
    go true = odd_number (suc (prec f)) s q k (low f)
    go false = refl

pub round_number : (f : Format) (s : Bool) (a c : ℕ) → is_nan (round f s a c) ≡ false
round_number f s a c = ap is_nan (round_is f s a c) ∙ units_number f s _ _

-- finite numbers, and their sum, are no NaN
pub finite_number : (x : Float) → finite x ≡ true → is_nan x ≡ false
unfolding is_nan
finite_number nan h = sym h
finite_number (inf s) h = refl
finite_number (fin s m e) h = refl

sum_number : (s : Bool) (a : ℕ) (t : Bool) (b c : ℕ) → is_nan (sum binary32 s a t b c) ≡ false
unfolding sum
sum_number s a t b c = go (beq s t) (ltb a b)
  where
    go : (v w : Bool) → is_nan (cond v (round binary32 s (a + b) c) (cond w (round binary32 t (b - a) c) (round binary32 (s && ltb b a) (a - b) c))) ≡ false
    go true w = round_number binary32 s (a + b) c
    go false true = round_number binary32 t (b - a) c
    go false false = round_number binary32 (s && ltb b a) (a - b) c

pub finite_add : (x y : Float) → finite x ≡ true → finite y ≡ true → is_nan (add binary32 x y) ≡ false
unfolding add
finite_add nan y p q = absurd (false≢true p)
finite_add (inf s) y p q = absurd (false≢true p)
finite_add (fin s m e) nan p q = absurd (false≢true q)
finite_add (fin s m e) (inf t) p q = absurd (false≢true q)
finite_add (fin s m e) (fin t n d) p q = sum_number s (m * up e * down d) t (n * up d * down e) (down e * down d)

below_total : (s : Bool) (a : ℕ) (t : Bool) (b : ℕ) → below t b s a ≡ false → (below s a t b || level s a t b) ≡ true
below_total false a false b h = or-le a b (ltb-false b a h)
  where
    or-le : (a b : ℕ) → a ≤ b → (ltb a b || (eqb a b && true)) ≡ true
    or-le a b h = go (ltb a b) refl
      where
        go : (w : Bool) → ltb a b ≡ w → (w || (eqb a b && true)) ≡ true
        go true e = refl
        go false e = rw (eq-eqb a b (le_antisymm h (ltb-false a b e)))
below_total false a true b h =
    let q = ltb-false 0 (b + a) h in
    let z : a ≡ 0 = omega (arith, q) in
    let y : a ≡ b = omega (arith, q) in
    rw (eq-eqb a b y, eq-eqb a 0 z)
below_total true a false b h = go (ltb 0 (a + b)) refl
  where
    go : (w : Bool) → ltb 0 (a + b) ≡ w → (w || (eqb a b && eqb a 0)) ≡ true
    go true e = refl
    go false e =
        let q = ltb-false 0 (a + b) e in
        let z : a ≡ 0 = omega (arith, q) in
        let y : a ≡ b = omega (arith, q) in
        rw (eq-eqb a b y, eq-eqb a 0 z)
below_total true a true b h = go (ltb b a) refl
  where
    go : (w : Bool) → ltb b a ≡ w → (w || (eqb a b && true)) ≡ true
    go true e = refl
    go false e = rw (eq-eqb a b (le_antisymm (ltb-false b a e) (ltb-false a b h)))

pub lt_le : (x y : Float) → is_nan x ≡ false → is_nan y ≡ false → lt y x ≡ false → le x y ≡ true
unfolding le lt eq is_nan
lt_le nan y p q h = absurd (true≢false p)
lt_le (inf s) nan p q h = absurd (true≢false q)
lt_le (inf true) (inf true) p q h = refl
lt_le (inf true) (inf false) p q h = refl
lt_le (inf false) (inf true) p q h = absurd (true≢false h)
lt_le (inf false) (inf false) p q h = refl
lt_le (inf true) (fin t n d) p q h = refl
lt_le (inf false) (fin t n d) p q h = absurd (true≢false h)
lt_le (fin s m e) nan p q h = absurd (true≢false q)
lt_le (fin s m e) (inf true) p q h = absurd (true≢false h)
lt_le (fin s m e) (inf false) p q h = refl
lt_le (fin s m e) (fin t n d) p q h = below_total s (m * up e * down d) t (n * up d * down e) h
