-- Bits 0 and 2 of finished rows say how each node takes part, and the candidate list's node numbers are read off them.
use Rattle.std.specs.Prelude.{◌≡◌, refl, [], ◌∷◌, map, ℕ, suc, ◌+◌}
use Rattle.std.proofs.Common.{ap, ◌∙◌}
use Rattle.tree.specs.Tree.{Tree, Forest, node, none, more, count_t, map_t, map_f}
use Rattle.style.specs.Flow.{flow_of}
use Rattle.style.specs.declared.Flow.{Flow}
use Rattle.style.specs.declared.Flow.TheVariants.{Gone, Out, In}
use Rattle.steps.specs.Row.{Row}
use Rattle.steps.specs.Page.{Site}
use Rattle.steps.specs.Candidates.{Candidate, candidates}
use Rattle.steps.proofs.Clauses.{by_flow}
use Rattle.listing.specs.Asides.{asides_t, asides_f, asides}
use Rattle.listing.specs.Flows.{row_flow, gone_f, seen_t, seen_f, outs_t, outs_f, row_outs_f, seen_count_t}

mutual
  unfolding seen_t outs_t asides_t

  seen_outs_t : (b : ℕ) (t : Tree Site) → outs_t b (seen_t t) ≡ asides_t b t
  seen_outs_t b (node l ks) = go (flow_of l.style) (seen_outs_f (suc b) ks)
    where
      go : (w : Flow) → outs_f (suc b) (seen_f ks) ≡ asides_f (suc b) ks → by_flow w [] (b ∷ []) (outs_f (suc b) (by_flow w (gone_f ks) (gone_f ks) (seen_f ks))) ≡ by_flow w [] (b ∷ []) (asides_f (suc b) ks)
      go Gone h = refl
      go Out h = refl
      go In h = h

  seen_outs_f : (b : ℕ) (ts : Forest Site) → outs_f b (seen_f ts) ≡ asides_f b ts
  seen_outs_f b none = refl
  seen_outs_f b (more t ts) = rw (seen_outs_t b t, seen_count_t t, seen_outs_f (b + count_t t) ts)

-- rows whose bits are those of a page's styles have its asides for candidates
pub seen_nodes : (l : Site) (ks : Forest Site) (u : Tree Row) → map_t row_flow u ≡ node In (seen_f ks) → map (λ (c : Candidate). c.node) (candidates u) ≡ asides (node l ks)
unfolding candidates asides map_t
seen_nodes l ks (node r us) e = row_outs_f 1 us ∙ ap (outs_f 1) (kids (ap below e)) ∙ seen_outs_f 1 ks
  where
    below : Tree Flow → Forest Flow
    below (node w vs) = vs

    kids : below (node (row_flow r) (map_f row_flow us)) ≡ below (node In (seen_f ks)) → map_f row_flow us ≡ seen_f ks
    kids p = p
