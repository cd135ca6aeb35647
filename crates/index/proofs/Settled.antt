-- No two answers of make_index look alike on paper: index-settles.
use Rattle.std.specs.Prelude.{Result, Ok, ⊤, Err}
use Rattle.index.specs.declared.IndexRefusal.TheVariants.{Plain, BadEntry}
use Rattle.index.specs.declared.IndexRefusal.{IndexRefusal}
use mathlib.Core.Path.{◌≡◌, refl, sym, ap, subst}
use mathlib.Core.Bool.{Bool}
use mathlib.Core.List.{List}
use Prim.Native.Nat.{ℕ}
use native.Mathlib.Omega.{arith}
use Rattle.answers.specs.Settled.{refusal_settles, no_zero, refusal_from_nine}
use Rattle.edges.specs.Tests.{LaidRefused}
use Rattle.index.specs.Index.{index_paper}
use Rattle.index.specs.Due.{IndexDue}

abbrev number : ℕ × ℕ → ℕ
number p = p.0

-- two answers, each due of some call, that have one number and one place
module _ (bad bad' : Bool) (ws ms list ws' ms' list' : List ℕ) where
  pub index-settles : (a b : Result ⊤ IndexRefusal) → IndexDue bad ws ms list a → IndexDue bad' ws' ms' list' b → index_paper a ≡ index_paper b → a ≡ b
  unfolding index_paper
  index-settles (Ok _) (Ok _) h k e = refl
  index-settles (Ok _) (Err (Plain b)) h k e = absurd (no_zero b 0 (sym e))
  index-settles (Ok _) (Err (BadEntry j)) h k e = let n = ap number e in absurd (omega arith)
  index-settles (Err (Plain a)) (Ok _) h k e = absurd (no_zero a 0 e)
  index-settles (Err (Plain a)) (Err (Plain b)) h k e = ap (λ z. Err (Plain z)) (refusal_settles a b e)
  index-settles (Err (Plain a)) (Err (BadEntry j)) h k e = absurd (refusal_from_nine a _ _ (omega arith) e)
  index-settles (Err (BadEntry i)) (Ok _) h k e = let n = ap number e in absurd (omega arith)
  index-settles (Err (BadEntry i)) (Err (Plain b)) h k e = absurd (refusal_from_nine b _ _ (omega arith) (sym e))
  index-settles (Err (BadEntry i)) (Err (BadEntry j)) h k e = ap (λ (p : ℕ × ℕ). Err (BadEntry p.1)) e
