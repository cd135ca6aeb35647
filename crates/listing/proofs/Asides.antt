-- Which nodes of a page the candidate list names, said of styles alone; and that these are as many as are needed.
use Rattle.std.specs.Prelude.{◌≡◌, refl, ℕ, suc, ◌+◌, length}
use Rattle.std.proofs.Common.{ap₂, ◌∙◌, length-append}
use Rattle.tree.specs.Tree.{Tree, Forest, node, none, more}
use Rattle.style.specs.Flow.{flow_of}
use Rattle.steps.specs.Page.{Site}
use Rattle.steps.specs.Candidates.{needed_t, needed_f, needed}
use Rattle.listing.specs.Asides.{asides_t, asides_f, asides, by_flow_lem}

mutual
  unfolding asides_t needed_t

  length_t : (b : ℕ) (t : Tree Site) → length (asides_t b t) ≡ needed_t t
  length_t b (node l ks) = by_flow_lem (flow_of l.style) b (asides_f (suc b) ks) (needed_f ks) (length_f (suc b) ks)

  length_f : (b : ℕ) (ts : Forest Site) → length (asides_f b ts) ≡ needed_f ts
  length_f b none = refl
  length_f b (more t ts) = length-append (asides_t b t) _ ∙ ap₂ ◌+◌ (length_t b t) (length_f _ ts)

pub asides_needed : (t : Tree Site) → length (asides t) ≡ needed t
unfolding asides needed
asides_needed (node l ks) = length_f 1 ks
