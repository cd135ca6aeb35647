-- A number that is short, or is one number c: what larger, smaller and clamp with short numbers keep. Differences in which a part falls out. Assumes nothing.
use Rattle.std.specs.Prelude.{◌≡◌, Bool, true, false, cond, ℕ, ℤ, neg_ℤ, ◌+ℤ◌, ◌-ℤ◌, Float, Option, unwrap_or}
use Rattle.std.proofs.Common.{sym, ap, ◌∙◌}
use Rattle.std.proofs.Math.IntN.{neg_ℤ-neg_ℤ, neg_ℤ-+ℤ, +ℤ_assoc, +ℤ_comm, +ℤ-neg_ℤ_cancel, +ℤ_invr, +ℤ_idl}
use Rattle.util.specs.Math.{larger, smaller, capped, floored, clamped}
use Rattle.whole.specs.Range.{within_lt}
use Rattle.whole.specs.More.{max_z, min_z}
use Rattle.integers.specs.Numbers.{MayZ, unwrap_or_z, capped_z, floored_z, clamped_z}
use Rattle.exact.specs.Near.{Near, MayIs, none_is, some_is}

-- at most 5120, or the number c, which n bounds
pub data Tall (n : ℕ) (c : ℤ) : Float → ℤ → Type 0 where
  short : {x : Float} {k : ℤ} → Near x k 5120 → Tall n c x k
  same : {x : Float} {k : ℤ} → Near x k n → k ≡ c → Tall n c x k

tall_cond : (t : Bool) {n : ℕ} {c : ℤ} {x y : Float} {a b : ℤ} → Tall n c x a → Tall n c y b → Tall n c (cond t x y) (cond t a b)
tall_cond true p q = p
tall_cond false p q = q

tall_test : {s t : Bool} {n : ℕ} {c : ℤ} {x y : Float} {a b : ℤ} → s ≡ t → Tall n c x a → Tall n c y b → Tall n c (cond s x y) (cond t a b)
tall_test {s} {t} e p q = rw e (tall_cond t p q)

pub tall_larger : {n : ℕ} {c : ℤ} {x y : Float} {a b : ℤ} → Tall n c x a → Near y b 5120 → Tall n c (larger x y) (max_z a b)
unfolding larger
tall_larger (short p) q = tall_test (within_lt p q) (short q) (short p)
tall_larger (same p e) q = tall_test (within_lt p q) (short q) (same p e)

tall_smaller : {n : ℕ} {c : ℤ} {x y : Float} {a b : ℤ} → Tall n c x a → Near y b 5120 → Tall n c (smaller x y) (min_z a b)
unfolding smaller
tall_smaller (short p) q = tall_test (within_lt q p) (short q) (short p)
tall_smaller (same p e) q = tall_test (within_lt q p) (short q) (same p e)

tall_capped : {n : ℕ} {c : ℤ} {x : Float} {a : ℤ} {o : Option Float} {m : MayZ} → Tall n c x a → MayIs 5120 o m → Tall n c (capped x o) (capped_z a m)
unfolding capped capped_z
tall_capped p none_is = p
tall_capped p (some_is q) = tall_smaller p q

tall_floored : {n : ℕ} {c : ℤ} {x : Float} {a : ℤ} {o : Option Float} {m : MayZ} → Tall n c x a → MayIs 5120 o m → Tall n c (floored x o) (floored_z a m)
unfolding floored floored_z
tall_floored p none_is = p
tall_floored p (some_is q) = tall_larger p q

pub tall_clamped : {n : ℕ} {c : ℤ} {x : Float} {a : ℤ} {lo hi : Option Float} {l h : MayZ} → Tall n c x a → MayIs 5120 lo l → MayIs 5120 hi h → Tall n c (clamped x lo hi) (clamped_z a l h)
unfolding clamped clamped_z
tall_clamped p q r = tall_floored (tall_capped p r) q

pub tall_unwrap : {n : ℕ} {c : ℤ} {x : Float} {a : ℤ} {o : Option Float} {m : MayZ} → MayIs 5120 o m → Tall n c x a → Tall n c (unwrap_or o x) (unwrap_or_z m a)
unfolding unwrap_or_z
tall_unwrap none_is p = p
tall_unwrap (some_is q) p = short q

-- ---- differences
pub cancels : (h i c : ℤ) → (h -ℤ i) -ℤ (c -ℤ i) ≡ h -ℤ c
cancels h i c =
    ap (λ (z : ℤ). (h +ℤ neg_ℤ i) +ℤ z) (neg_ℤ-+ℤ c (neg_ℤ i) ∙ ap (λ (z : ℤ). neg_ℤ c +ℤ z) (neg_ℤ-neg_ℤ i))
    ∙ +ℤ_assoc h (neg_ℤ i) (neg_ℤ c +ℤ i)
    ∙ ap (λ (z : ℤ). h +ℤ z) (+ℤ_comm (neg_ℤ i) (neg_ℤ c +ℤ i) ∙ +ℤ-neg_ℤ_cancel (neg_ℤ c) i)

-- the number of a crude sum, in the bounds of a closer one
pub closer : {x y : Float} {a b : ℤ} {n m : ℕ} → Near x a n → a ≡ b → Near y b m → Near x a m
closer {x} {y} {a} {b} {n} {m} p e q = record { whole = p.whole; low = rw e q.low; high = rw e q.high }

pub sub_sum : (a b c : ℤ) → a -ℤ (b +ℤ c) ≡ (a -ℤ b) -ℤ c
sub_sum a b c = ap (λ (z : ℤ). a +ℤ z) (neg_ℤ-+ℤ b c) ∙ sym (+ℤ_assoc a (neg_ℤ b) (neg_ℤ c))

-- (b - x) - (b - y) = y - x
pub flips : (b x y : ℤ) → (b -ℤ x) -ℤ (b -ℤ y) ≡ y -ℤ x
flips b x y =
    ap (λ (z : ℤ). (b +ℤ neg_ℤ x) +ℤ z) (neg_ℤ-+ℤ b (neg_ℤ y) ∙ ap (λ (z : ℤ). neg_ℤ b +ℤ z) (neg_ℤ-neg_ℤ y))
    ∙ ap (λ (z : ℤ). z +ℤ (neg_ℤ b +ℤ y)) (+ℤ_comm b (neg_ℤ x))
    ∙ +ℤ_assoc (neg_ℤ x) b (neg_ℤ b +ℤ y)
    ∙ ap (λ (z : ℤ). neg_ℤ x +ℤ z) (sym (+ℤ_assoc b (neg_ℤ b) y) ∙ ap (λ (z : ℤ). z +ℤ y) (+ℤ_invr b) ∙ +ℤ_idl y)
    ∙ +ℤ_comm (neg_ℤ x) y
