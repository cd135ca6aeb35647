-- Whole floats up to n in size, and numbers that may be missing: the laws of util over them. Assumes nothing.
use Rattle.std.specs.Option.{option_or}
use Rattle.std.specs.Prelude.{◌≡◌, refl, ℕ, ◌+◌, ◌^◌, ◌≤◌, ℤ, pos, ◌+ℤ◌, ◌-ℤ◌, Float, Option, None, Some, is_some, unwrap_or}
use Rattle.std.proofs.Common.{arith}
use Rattle.geometry.specs.Floats.{◌⊕◌, ◌⊖◌}
use Rattle.geometry.specs.Geometry.{zero_f}
use Rattle.util.specs.Math.{larger, smaller, capped, floored, clamped}
use Rattle.util.specs.Maybe.{or_zero, add_opt, sub_opt, clamp_opt, floor_opt}
use Rattle.steps.specs.Stack.{neg_opt}
use Rattle.whole.specs.More.{max_z, min_z}
use Rattle.whole.specs.Range.{Within, wider, within_add, within_sub, within_neg, within_larger, within_smaller, zero_is}
use Rattle.integers.specs.Numbers.{MayZ, NoneZ, SomeZ, unwrap_or_z, or_zero_z, or_else_z, is_some_z, add_opt_z, sub_opt_z, neg_opt_z, capped_z, floored_z, clamped_z, clamp_opt_z, floor_opt_z}

-- x is the whole number k, at most n in size
abbrev pub Near : Float → ℤ → ℕ → Type 0
Near x k n = Within x k n n

pub nought : Near zero_f (pos 0) 0
nought = zero_is

pub wide : {x : Float} {k : ℤ} {n r : ℕ} → Near x k n → n ≤ r → Near x k r
wide p u = wider p u u

pub plus_is : {x y : Float} {a b : ℤ} {n m : ℕ} → Near x a n → Near y b m → n + m ≤ 2 ^ 24 → Near (x ⊕ y) (a +ℤ b) (n + m)
plus_is p q u = within_add p q u u

pub minus_is : {x y : Float} {a b : ℤ} {n m : ℕ} → Near x a n → Near y b m → n + m ≤ 2 ^ 24 → Near (x ⊖ y) (a -ℤ b) (n + m)
minus_is p q u = within_sub p q u u

pub larger_is : {x y : Float} {a b : ℤ} {n : ℕ} → Near x a n → Near y b n → Near (larger x y) (max_z a b) n
larger_is p q = wider (within_larger p q) (omega arith) (omega arith)

pub smaller_is : {x y : Float} {a b : ℤ} {n : ℕ} → Near x a n → Near y b n → Near (smaller x y) (min_z a b) n
smaller_is p q = wider (within_smaller p q) (omega arith) (omega arith)

-- ---- a number that may be missing: missing on both sides, or there on both
pub data MayIs (n : ℕ) : Option Float → MayZ → Type 0 where
  none_is : MayIs n None NoneZ
  some_is : {x : Float} {k : ℤ} → Near x k n → MayIs n (Some x) (SomeZ k)

pub wide_may : {n r : ℕ} {o : Option Float} {a : MayZ} → MayIs n o a → n ≤ r → MayIs r o a
wide_may none_is u = none_is
wide_may (some_is p) u = some_is (wide p u)

pub or_else_is : {n : ℕ} {o p : Option Float} {a b : MayZ} → MayIs n o a → MayIs n p b → MayIs n (option_or o p) (or_else_z a b)
unfolding or_else_z
or_else_is none_is q = q
or_else_is (some_is p) q = some_is p

pub unwrap_is : {n : ℕ} {o : Option Float} {a : MayZ} {y : Float} {k : ℤ} → MayIs n o a → Near y k n → Near (unwrap_or o y) (unwrap_or_z a k) n
unfolding unwrap_or_z
unwrap_is none_is q = q
unwrap_is (some_is p) q = p

pub or_zero_is : {n : ℕ} {o : Option Float} {a : MayZ} → MayIs n o a → Near (or_zero o) (or_zero_z a) n
unfolding or_zero_z
or_zero_is none_is = zero_is
or_zero_is (some_is p) = p

pub is_some_is : {n : ℕ} {o : Option Float} {a : MayZ} → MayIs n o a → is_some o ≡ is_some_z a
unfolding is_some_z
is_some_is none_is = refl
is_some_is (some_is p) = refl

pub add_opt_is : {n m : ℕ} {o : Option Float} {a : MayZ} {y : Float} {k : ℤ} → MayIs n o a → Near y k m → n + m ≤ 2 ^ 24 → MayIs (n + m) (add_opt o y) (add_opt_z a k)
unfolding add_opt add_opt_z
add_opt_is none_is q u = none_is
add_opt_is (some_is p) q u = some_is (plus_is p q u)

pub sub_opt_is : {n m : ℕ} {o : Option Float} {a : MayZ} {y : Float} {k : ℤ} → MayIs n o a → Near y k m → n + m ≤ 2 ^ 24 → MayIs (n + m) (sub_opt o y) (sub_opt_z a k)
unfolding sub_opt sub_opt_z
sub_opt_is none_is q u = none_is
sub_opt_is (some_is p) q u = some_is (minus_is p q u)

pub neg_opt_is : {n : ℕ} {o : Option Float} {a : MayZ} → MayIs n o a → MayIs n (neg_opt o) (neg_opt_z a)
unfolding neg_opt neg_opt_z
neg_opt_is none_is = none_is
neg_opt_is (some_is p) = some_is (within_neg p)

pub capped_is : {n : ℕ} {x : Float} {k : ℤ} {o : Option Float} {a : MayZ} → Near x k n → MayIs n o a → Near (capped x o) (capped_z k a) n
unfolding capped capped_z
capped_is p none_is = p
capped_is p (some_is q) = smaller_is p q

pub floored_is : {n : ℕ} {x : Float} {k : ℤ} {o : Option Float} {a : MayZ} → Near x k n → MayIs n o a → Near (floored x o) (floored_z k a) n
unfolding floored floored_z
floored_is p none_is = p
floored_is p (some_is q) = larger_is p q

pub clamped_is : {n : ℕ} {x : Float} {k : ℤ} {lo hi : Option Float} {a b : MayZ} → Near x k n → MayIs n lo a → MayIs n hi b → Near (clamped x lo hi) (clamped_z k a b) n
unfolding clamped clamped_z
clamped_is p q r = floored_is (capped_is p r) q

pub clamp_opt_is : {n : ℕ} {o lo hi : Option Float} {m a b : MayZ} → MayIs n o m → MayIs n lo a → MayIs n hi b → MayIs n (clamp_opt o lo hi) (clamp_opt_z m a b)
unfolding clamp_opt clamp_opt_z
clamp_opt_is none_is q r = none_is
clamp_opt_is (some_is p) q r = some_is (clamped_is p q r)

pub floor_opt_is : {n : ℕ} {o : Option Float} {m : MayZ} {y : Float} {k : ℤ} → MayIs n o m → Near y k n → MayIs n (floor_opt o y) (floor_opt_z m k)
unfolding floor_opt floor_opt_z
floor_opt_is none_is q = none_is
floor_opt_is (some_is p) q = some_is (larger_is p q)
