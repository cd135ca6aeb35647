-- Numbers not below 0, and sums of such. Assumes nothing.
use Rattle.std.specs.Prelude.{◌≡◌, refl, Bool, true, false, cond, ◌&&◌, ℕ, ◌+◌, ◌-◌, ◌*◌, ltb, ℤ, Float}
use Rattle.std.proofs.Common.{sym, subst, true≢false, zero-le, mul-pos, le-ltb}
use Rattle.std.specs.Float.{nan, inf, fin, binary32}
use Rattle.std.specs.Float.Ieee.{up, down, lt, add, sum, round, is_nan, of_bits}
use Rattle.std.specs.Float.Ieee.Fits.{down_pos}
use Rattle.geometry.specs.Geometry.{zero_f}
use Rattle.util.specs.Math.{larger}
use Rattle.util.specs.Order.{lt_none}
use Rattle.sums.specs.Sums.{round_pos, pos_zero, size_none, sum-none, lt_self}
use Rattle.sums.specs.Numbers.{round_number}
use Rattle.sums.specs.Zeros.{Zero, zero_round, zeros_none}

-- a number, and not below 0
abbrev pub Solid : Float → Type 0
Solid x = (is_nan x ≡ false) × (lt x zero_f ≡ false)

pub zero_solid : Solid zero_f
unfolding is_nan of_bits
zero_solid = (refl, lt_self zero_f)

round_solid : (a c : ℕ) → Solid (round binary32 false a c)
round_solid a c = (round_number binary32 false a c, pos_zero (round binary32 false a c) (round_pos binary32 a c))

zero_zero : Zero zero_f
unfolding of_bits
zero_zero = refl

sum_solid : (b c : ℕ) → Solid (sum binary32 true 0 false b c)
unfolding sum
sum_solid b c = rw (le-ltb b 0 zero-le) (go (ltb 0 b))
  where
    go : (w : Bool) → Solid (cond w (round binary32 false (b - 0) c) (round binary32 (true && false) (0 - b) c))
    go true = round_solid (b - 0) c
    go false = round_solid (0 - b) c

like_solid : (a b c : ℕ) → Solid (sum binary32 false a false b c)
unfolding sum
like_solid a b c = round_solid (a + b) c

fin_solid : (s : Bool) (m : ℕ) (e : ℤ) (t : Bool) (n : ℕ) (d : ℤ) → lt (fin s m e) zero_f ≡ false → lt (fin t n d) zero_f ≡ false
    → Solid (sum binary32 s (m * up e * down d) t (n * up d * down e) (down e * down d))
fin_solid false m e false n d h g = like_solid (m * up e * down d) (n * up d * down e) (down e * down d)
fin_solid true m e false n d h g = subst (λ (k : ℕ). Solid (sum binary32 true k false (n * up d * down e) (down e * down d))) (sym (size_none m e (down d) h)) (sum_solid (n * up d * down e) (down e * down d))
fin_solid false m e true n d h g =
    let p = mul-pos (down_pos e) (down_pos d) in
    subst (λ (k : ℕ). Solid (sum binary32 false (m * up e * down d) true k (down e * down d))) (sym (size_none n d (down e) g))
    (subst Solid (sym (sum-none binary32 zero_f (down e * down d) p false (m * up e * down d))) (round_solid (m * up e * down d) (down e * down d)))
fin_solid true m e true n d h g =
    let c = down e * down d in
    let p = mul-pos (down_pos e) (down_pos d) in
    subst (λ (k : ℕ). Solid (sum binary32 true (m * up e * down d) true k c)) (sym (size_none n d (down e) g))
    (subst (λ (k : ℕ). Solid (sum binary32 true k true 0 c)) (sym (size_none m e (down d) h))
    (subst Solid (sym (sum-none binary32 zero_f c p true 0)) (round_number binary32 true 0 c, zeros_none (round binary32 true 0 c) zero_f (zero_round true c p) zero_zero)))

pub add_solid : (x y : Float) → Solid x → Solid y → Solid (add binary32 x y)
unfolding add lt is_nan of_bits
add_solid nan y p q = absurd (true≢false p.0)
add_solid (inf true) y p q = absurd (true≢false p.1)
add_solid (inf false) nan p q = absurd (true≢false q.0)
add_solid (inf false) (inf true) p q = absurd (true≢false q.1)
add_solid (inf false) (inf false) p q = (refl, refl)
add_solid (inf false) (fin t n d) p q = (refl, refl)
add_solid (fin s m e) nan p q = absurd (true≢false q.0)
add_solid (fin s m e) (inf true) p q = absurd (true≢false q.1)
add_solid (fin s m e) (inf false) p q = (refl, refl)
add_solid (fin s m e) (fin t n d) p q = fin_solid s m e t n d p.1 q.1

pub larger_up : (x p : Float) → Solid p → lt (larger x p) zero_f ≡ false
unfolding larger
larger_up x p h = go (lt x p) refl
  where
    go : (b : Bool) → lt x p ≡ b → lt (cond b p x) zero_f ≡ false
    go true e = h.1
    go false e = lt_none x p zero_f h.0 e h.1
