-- One digit further: what the loop that reads a number uses. Assumes nothing.
use Rattle.std.specs.Prelude.{None, Some}
use mathlib.Core.Path.{◌≡◌, refl, sym}
use mathlib.Core.Bool.{Bool, true, false}
use mathlib.Core.List.{List, [], ◌∷◌}
use Prim.Native.Nat.{ℕ, ◌+◌, ◌*◌, ◌^◌, ◌<◌, ◌≤◌}
use native.Mathlib.Omega.{arith}
use lib.ListN.{length, drop, get_or, drop_of_length-le}
use lib.Dec.{eqb}
use native.Mathlib.Nat.{mul-le-mul_left, mul-le-mul_right}
use borrow.Author.Tests.{lt-ltb, le-ltb, lt-leb, le-leb, ne_eqb}
use Rattle.text.specs.Values.{digit_of, all_digits, value_from, value_of}
use Rattle.text.proofs.PieceTurn.{step}

module _ (base : ℕ) (s : List ℕ) (i : ℕ) (h : i < length s) where
  pub digit-good : digit_of (get_or s i 0) < base → all_digits base (drop i s) ≡ all_digits base (drop (i + 1) s)
  unfolding all_digits
  digit-good d = rw (step s i h, lt-ltb (digit_of (get_or s i 0)) base d)

  pub digit-bad : base ≤ digit_of (get_or s i 0) → all_digits base (drop i s) ≡ false
  unfolding all_digits
  digit-bad d = rw (step s i h, le-ltb (digit_of (get_or s i 0)) base d)

  pub value-step : (v : ℕ) → value_from base v (drop i s) ≡ value_from base (v * base + digit_of (get_or s i 0)) (drop (i + 1) s)
  unfolding value_from
  value-step v = rw (step s i h)

-- the value only grows
pub grows : (base v : ℕ) (s : List ℕ) → 0 < base → v ≤ value_from base v s
unfolding value_from
grows base v [] h = omega arith
grows base v (b ∷ s) h = omega (arith, grows base (v * base + digit_of b) s h, mul-le-mul_left v h)

pub empty_bad : (base limit : ℕ) (s : List ℕ) → length s ≡ 0 → None ≡ value_of base limit s
unfolding value_of
empty_bad base limit s e = rw e

module _ (base limit : ℕ) (s : List ℕ) (some : 0 < length s) where
  not-empty : eqb (length s) 0 ≡ false
  not-empty = ne_eqb (length s) 0 (λ e. omega arith)

  pub digits-bad : all_digits base s ≡ false → None ≡ value_of base limit s
  unfolding value_of
  digits-bad e = rw (not-empty, e)

  over : (b : Bool) → limit < value_from base 0 s → b ≡ all_digits base s → None ≡ value_of base limit s
  unfolding value_of
  over true h e = rw (not-empty, ← e, lt-leb (value_from base 0 s) limit h)
  over false h e = digits-bad (sym e)

  pub over_limit_lem : limit < value_from base 0 s → None ≡ value_of base limit s
  over_limit_lem h = over (all_digits base s) h refl

  pub all_good : (v : ℕ) → all_digits base s ≡ true → value_from base 0 s ≡ v → v ≤ limit → Some v ≡ value_of base limit s
  unfolding value_of
  all_good v d e h = rw (not-empty, d, e, le-leb v limit h)

pub end_digits : (base : ℕ) (s : List ℕ) (i : ℕ) → length s ≤ i → all_digits base (drop i s) ≡ true
unfolding all_digits
end_digits base s i h = rw (drop_of_length-le s h)

pub end_value : (base v : ℕ) (s : List ℕ) (i : ℕ) → length s ≤ i → value_from base v (drop i s) ≡ v
unfolding value_from
end_value base v s i h = rw (drop_of_length-le s h)

-- one more digit fits 64 bits
pub small : (v base d : ℕ) → v < 2 ^ 32 → base < 2 ^ 8 → d < 2 ^ 8 → v * base + d < 2 ^ 64
small v base d h b e = omega (arith, mul-le-mul_left v b, mul-le-mul_right (2 ^ 8) h)
