-- Which nodes of a page the candidate list names, said of styles alone; and that these are as many as are needed.
use Rattle.std.specs.Prelude.{◌≡◌, refl, List, [], ◌∷◌, ◌++◌, ℕ, suc, ◌+◌, length}
use Rattle.tree.specs.Tree.{Tree, Forest, node, none, more, count_t}
use Rattle.style.specs.Flow.{flow_of}
use Rattle.style.specs.declared.Flow.{Flow}
use Rattle.style.specs.declared.Flow.TheVariants.{Gone, Out, In}
use Rattle.steps.specs.Page.{Site}
use Rattle.steps.proofs.Clauses.{by_flow}

-- shown out-of-flow children below no hidden node and no other such child, by number, in preorder; b is the number of the first node
unfoldable mutual
  pub asides_t : ℕ → Tree Site → List ℕ
  asides_t b (node l ks) = elim (flow_of l.style) [ Gone ↦ [] | Out ↦ b ∷ [] | In ↦ asides_f (suc b) ks ]

  pub asides_f : ℕ → Forest Site → List ℕ
  asides_f b none = []
  asides_f b (more t ts) = asides_t b t ++ asides_f (b + count_t t) ts

-- those of a page, whose root is node 0
unfoldable pub asides : Tree Site → List ℕ
asides (node l ks) = asides_f 1 ks

-- as many as refusal 5 asks room for
pub by_flow_lem : (w : Flow) (b : ℕ) (l : List ℕ) (n : ℕ) → length l ≡ n → length (by_flow w [] (b ∷ []) l) ≡ by_flow w 0 1 n
by_flow_lem Gone b l n e = refl
by_flow_lem Out b l n e = refl
by_flow_lem In b l n e = e
