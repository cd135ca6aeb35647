-- No two answers of coarse look alike on paper: coarse-settles.
use Rattle.std.specs.Prelude.{Result, Ok, ⊤, Err}
use Rattle.coarse.specs.declared.CoarseRefusal.TheVariants.{Plain, TooFar}
use Rattle.coarse.specs.declared.CoarseRefusal.{CoarseRefusal}
use mathlib.Core.Path.{◌≡◌, refl, sym, ap}
use mathlib.Core.Bool.{Bool}
use mathlib.Core.List.{List}
use Prim.Native.Nat.{ℕ}
use native.Mathlib.Omega.{arith}
use lib.Ieee.{Float}
use Rattle.answers.specs.Settled.{refusal_settles, no_zero, refusal_from_nine}
use Rattle.coarse.specs.Coarse.{coarse_paper}
use Rattle.coarse.specs.Due.{CoarseDue}

abbrev number : ℕ × ℕ → ℕ
number p = p.0

-- two answers, each due of some call, that have one number and one place
module _ (bad bad' : Bool) (ws ms ws' ms' : List ℕ) (rs rs' : List Float) where
  pub coarse-settles : (a b : Result ⊤ CoarseRefusal) → CoarseDue bad ws rs ms a → CoarseDue bad' ws' rs' ms' b → coarse_paper a ≡ coarse_paper b → a ≡ b
  unfolding coarse_paper
  coarse-settles (Ok _) (Ok _) h k e = refl
  coarse-settles (Ok _) (Err (Plain b)) h k e = absurd (no_zero b 0 (sym e))
  coarse-settles (Ok _) (Err (TooFar j)) h k e = let n = ap number e in absurd (omega arith)
  coarse-settles (Err (Plain a)) (Ok _) h k e = absurd (no_zero a 0 e)
  coarse-settles (Err (Plain a)) (Err (Plain b)) h k e = ap (λ z. Err (Plain z)) (refusal_settles a b e)
  coarse-settles (Err (Plain a)) (Err (TooFar j)) h k e = absurd (refusal_from_nine a _ _ (omega arith) e)
  coarse-settles (Err (TooFar i)) (Ok _) h k e = let n = ap number e in absurd (omega arith)
  coarse-settles (Err (TooFar i)) (Err (Plain b)) h k e = absurd (refusal_from_nine b _ _ (omega arith) (sym e))
  coarse-settles (Err (TooFar i)) (Err (TooFar j)) h k e = ap (λ (p : ℕ × ℕ). Err (TooFar (record { 0 = p.1 }))) e
