-- An answer as one word: its number and its place.
use Rattle.std.specs.Prelude.{◌≡◌, ℕ, ◌/◌, ◌%◌, ◌^◌}
use Rattle.std.proofs.Common.{arith}

-- the upper half is 01's number of an answer, the lower half its place
pub record Halves (p : ℕ × ℕ) (r : ℕ) : Type 0 where
  pub number_is : r / 2 ^ 32 ≡ p.0
  pub place_is : r % 2 ^ 32 ≡ p.1

-- the halves leave no choice
pub one_word : (p : ℕ × ℕ) (r s : ℕ) → Halves p r → Halves p s → r ≡ s
one_word p r s h k = omega (arith, h.number_is, h.place_is, k.number_is, k.place_is)
