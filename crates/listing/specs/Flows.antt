-- Bits 0 and 2 of finished rows say how each node takes part, and the candidate list's node numbers are read off them.
use Rattle.std.specs.Prelude.{◌≡◌, refl, Bool, true, false, cond, List, [], ◌∷◌, ◌++◌, map, ℕ, suc, ◌+◌}
use Rattle.std.proofs.Common.{ap, ◌∙◌}
use Rattle.std.proofs.lemmas.List.{map-append}
use Rattle.tree.specs.Tree.{Tree, Forest, node, none, more, count_t, count_f, map_t, map_f}
use Rattle.tree.proofs.Laws.{count_map_t, count_map_f}
use Rattle.style.specs.Flow.{flow_of}
use Rattle.style.specs.declared.Flow.{Flow}
use Rattle.style.specs.declared.Flow.TheVariants.{Gone, Out, In}
use Rattle.steps.specs.Row.{Row, is_laid, is_out}
use Rattle.steps.specs.Page.{Site}
use Rattle.steps.specs.Candidates.{Candidate, candidate_of, moved_by, candidates_at, candidates_t, candidates_f}
use Rattle.steps.proofs.Clauses.{by_flow}

-- a row that is laid, one out of flow, any other
abbrev pub row_flow : Row → Flow
row_flow r = cond (is_laid r) In (cond (is_out r) Out Gone)

-- all gone
abbrev pub gone_f : {A : Type 0} → Forest A → Forest Flow
gone_f {A} ts = map_f (λ (_ : A). Gone) ts

-- how the nodes of a page take part: nothing does below a hidden node or one out of flow
unfoldable mutual
  pub seen_t : Tree Site → Tree Flow
  seen_t (node l ks) = node (flow_of l.style) (by_flow (flow_of l.style) (gone_f ks) (gone_f ks) (seen_f ks))

  pub seen_f : Forest Site → Forest Flow
  seen_f none = none
  seen_f (more t ts) = more (seen_t t) (seen_f ts)

-- the numbers of the nodes out of flow
unfoldable mutual
  pub outs_t : ℕ → Tree Flow → List ℕ
  outs_t b (node w ks) = by_flow w [] (b ∷ []) (outs_f (suc b) ks)

  pub outs_f : ℕ → Forest Flow → List ℕ
  outs_f b none = []
  outs_f b (more t ts) = outs_t b t ++ outs_f (b + count_t t) ts

-- of finished rows they are the candidate list's
abbrev pub node_of : Candidate → ℕ
node_of c = c.node

moved_nodes : (r : Row) (l : List Candidate) → map node_of (map (moved_by r) l) ≡ map node_of l
unfolding moved_by
moved_nodes r [] = refl
moved_nodes r (c ∷ l) = ap (λ (m : List ℕ). c.node ∷ m) (moved_nodes r l)

at_row : (b : ℕ) (r : Row) (l : List Candidate) → map node_of (candidates_at b r l) ≡ by_flow (row_flow r) [] (b ∷ []) (map node_of l)
unfolding candidates_at candidate_of
at_row b r l = go (is_laid r) (is_out r)
  where
    go : (x y : Bool) → map node_of (cond x (map (moved_by r) l) (cond y (candidate_of b r ∷ []) [])) ≡ by_flow (cond x In (cond y Out Gone)) [] (b ∷ []) (map node_of l)
    go true y = moved_nodes r l
    go false true = refl
    go false false = refl

mutual
  unfolding candidates_t outs_t map_t

  row_outs_t : (b : ℕ) (t : Tree Row) → map node_of (candidates_t b t) ≡ outs_t b (map_t row_flow t)
  row_outs_t b (node r ks) = at_row b r (candidates_f (suc b) ks) ∙ ap (λ (l : List ℕ). by_flow (row_flow r) [] (b ∷ []) l) (row_outs_f (suc b) ks)

  pub row_outs_f : (b : ℕ) (ts : Forest Row) → map node_of (candidates_f b ts) ≡ outs_f b (map_f row_flow ts)
  row_outs_f b none = refl
  row_outs_f b (more t ts) = map-append node_of (candidates_t b t) (candidates_f (b + count_t t) ts) ∙ rw (row_outs_t b t, row_outs_f (b + count_t t) ts, count_map_t row_flow t)

-- of a page they are its asides
mutual
  unfolding seen_t count_t

  pub seen_count_t : (t : Tree Site) → count_t (seen_t t) ≡ count_t t
  seen_count_t (node l ks) = ap suc (go (flow_of l.style) (seen_count_f ks))
    where
      go : (w : Flow) → count_f (seen_f ks) ≡ count_f ks → count_f (by_flow w (gone_f ks) (gone_f ks) (seen_f ks)) ≡ count_f ks
      go Gone h = count_map_f _ ks
      go Out h = count_map_f _ ks
      go In h = h

  seen_count_f : (ts : Forest Site) → count_f (seen_f ts) ≡ count_f ts
  seen_count_f none = refl
  seen_count_f (more t ts) = rw (seen_count_t t, seen_count_f ts)
