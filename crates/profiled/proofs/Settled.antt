-- No two answers of a call asked as profile look alike on paper: profile-settles.
use Rattle.std.specs.Prelude.{Result, Ok, Err}
use Rattle.profiled.specs.declared.ProfileRefusal.TheVariants.{Plain, Outside}
use Rattle.profiled.specs.declared.ProfileRefusal.{ProfileRefusal}
use mathlib.Core.Path.{◌≡◌, sym, ap}
use Prim.Native.Nat.{ℕ}
use native.Mathlib.Omega.{arith}
use Rattle.answers.specs.Settled.{refusal_settles, no_zero, refusal_from_nine}
use Rattle.profiled.specs.Profiled.{profile_paper, no_paper}

pub profile_settles : (a b : Result ℕ ProfileRefusal) → profile_paper a ≡ profile_paper b → a ≡ b
unfolding profile_paper no_paper
profile_settles (Ok n) (Ok m) e = ap (λ (p : ℕ × ℕ). Ok p.1) e
profile_settles (Ok n) (Err (Plain b)) e = absurd (no_zero b _ (sym e))
profile_settles (Ok n) (Err (Outside k)) e = let z = ap (λ (p : ℕ × ℕ). p.0) e in absurd (omega arith)
profile_settles (Err (Plain a)) (Ok m) e = absurd (no_zero a _ e)
profile_settles (Err (Plain a)) (Err (Plain b)) e = ap (λ z. Err (Plain z)) (refusal_settles a b e)
profile_settles (Err (Plain a)) (Err (Outside k)) e = absurd (refusal_from_nine a _ _ (omega arith) e)
profile_settles (Err (Outside k)) (Ok m) e = let z = ap (λ (p : ℕ × ℕ). p.0) e in absurd (omega arith)
profile_settles (Err (Outside k)) (Err (Plain b)) e = absurd (refusal_from_nine b _ _ (omega arith) (sym e))
profile_settles (Err (Outside k)) (Err (Outside j)) e = ap (λ (p : ℕ × ℕ). Err (Outside p.1)) e
