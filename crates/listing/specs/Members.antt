-- The candidate list in plain words, by the words of lent tables: node i is listed exactly if it is shown and out of flow, not the root, and no ancestor of it but the root is hidden or out of flow; and the numbers grow.
use Rattle.std.specs.Prelude.{◌≡◌}
use mathlib.Core.List.{List, [], ◌∷◌, ◌++◌}
use Prim.Native.Nat.{ℕ, suc, ◌+◌, ◌<◌, ◌≤◌}
use native.Mathlib.Omega.{arith}
use Rattle.style.specs.Style.{word_at}
use Rattle.style.specs.Flow.{flow_at}
use Rattle.style.specs.declared.Flow.{Flow}
use Rattle.style.specs.declared.Flow.TheVariants.{Gone, Out, In}
use Rattle.steps.specs.Page.{nodes_in}
use Rattle.steps.proofs.Clauses.{by_flow}
use Rattle.tables.specs.Ancestors.{Ancestor}

-- how node i takes part, by its style word
abbrev pub flow_in : List ℕ → ℕ → Flow
flow_in ws i = flow_at (word_at ws i 1)

-- node i is to be listed
pub record Aside (ws : List ℕ) (i : ℕ) : Type 0 where
  pub not_root : 0 < i
  pub within : i < nodes_in ws
  pub out : flow_in ws i ≡ Out
  pub clear : (j : ℕ) → Ancestor ws i j → 0 < j → flow_in ws j ≡ In

-- numbers that grow, from b on and below e
unfoldable pub Grows : ℕ → ℕ → List ℕ → Type 0
Grows b e [] = b ≤ e
Grows b e (i ∷ l) = (b ≤ i) × Grows (suc i) e l

grows_from : (a b e : ℕ) (l : List ℕ) → a ≤ b → Grows b e l → Grows a e l
unfolding Grows
grows_from a b e [] h g = omega arith
grows_from a b e (i ∷ l) h g = let x = g.0 in (omega arith, g.1)

pub grows_append : (b c e : ℕ) (s t : List ℕ) → Grows b c s → Grows c e t → Grows b e (s ++ t)
unfolding Grows
grows_append b c e [] t g h = grows_from b c e t g h
grows_append b c e (i ∷ s) t g h = (g.0, grows_append (suc i) c e s t g.1 h)

pub grows_node : (w : Flow) (b c : ℕ) (l : List ℕ) → Grows (suc b) (suc b + c) l → Grows b (b + suc c) (by_flow w [] (b ∷ []) l)
unfolding Grows
grows_node Gone b c l g = omega arith
grows_node Out b c l g = (omega arith, omega arith)
grows_node In b c l g =
    let e : suc b + c ≡ b + suc c = omega arith in
    grows_from b (suc b) (b + suc c) l (omega arith) (rw e at g)
