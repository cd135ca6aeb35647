-- What c-size-refuses says, of any answer whose number is not 0.
use Rattle.steps.specs.declared.Refusal.{Refusal}
use Rattle.std.specs.Prelude.{List, Float, Result, Ok, Err, MatchResult}
use Rattle.std.proofs.Common.{arith}
use Prim.Native.Nat.{ℕ, ◌≤◌}
use Rattle.steps.specs.Noes.{paper}
use Rattle.steps.specs.Results.{size_result}
use Rattle.steps.specs.declared.LayoutInput.{LayoutInput}
use Rattle.steps.specs.declared.RequestedAxis.{RequestedAxis}
use Rattle.tables.proofs.Exactly.{Exactly}
use Rattle.asked.specs.Halves.{Halves}
use Rattle.face.specs.Answered as face
use Rattle.outcomes.specs.Sizes.{SizeGiven}
use Rattle.outcomes.proofs.C.{c-size-refuses}

module _ (ws : List ℕ) (xs : List Float) (q : LayoutInput) (axis : RequestedAxis) (r : ℕ) (size : List Float) (call : face.Sized (size_result ws xs q axis) r size) where
  pub c-size-refuses-by : (a : Result ℕ Refusal) → 1 ≤ (paper a).0 → Exactly (Halves (paper a) r) (MatchResult a (λ _. ⊥) (λ b. SizeGiven ws xs q axis (Err b)))
  unfolding paper
  c-size-refuses-by (Ok n) l = absurd (omega (arith, l))
  c-size-refuses-by (Err a) l = c-size-refuses ws xs q axis r size call a
