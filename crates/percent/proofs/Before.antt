-- A page without a fraction of a height has the rows that it had before percent heights, but for number 14 and bit 8.
use Rattle.std.specs.Prelude.{◌≡◌, refl, Bool, true, false, Float}
use Rattle.std.proofs.Common.{ap, ◌∙◌}
use Rattle.geometry.specs.Geometry.{zero_f}
use Rattle.style.specs.Flow.{is_leaf}
use Rattle.tree.specs.Tree.{Tree, Forest, node, none, more, map_t, map_f}
use Rattle.steps.specs.Row.{Row, laid_row}
use Rattle.steps.specs.Page.{Site, Node, blank}
use Rattle.steps.specs.Question.{root_input}
use Rattle.steps.specs.Edges.{frame_of}
use Rattle.steps.specs.Stack.{start_of}
use Rattle.steps.specs.Through.{finished, leaf_output}
use Rattle.steps.specs.Probe.{width_pass}
use Rattle.steps.specs.Kept.{zeros_f}
use Rattle.steps.specs.Layout.{Stacked, leaf_laid, block_laid, align_f, lay_t, lay_f, relaid, fresh}
use Rattle.steps.specs.declared.LayoutInput.{LayoutInput}
use Rattle.steps.specs.declared.LayoutOutput.{LayoutOutput}
use Rattle.steps.specs.declared.Question.{Question}
use Rattle.steps.specs.declared.Frame.{Frame}
use Rattle.steps.specs.declared.Cursor.{Cursor}
use Rattle.steps.proofs.Clauses.{lay_t_leaf, lay_t_block, lay_f_none}
use Rattle.laws.specs.Trees.{AllT, AllF}
use Rattle.laws.specs.Small.{Small}
use Rattle.percent.specs.Before.{no_basis, before_t, before_f, before, forgot, SameLaid, SameStack, before_t_at, before_f_none, unbased, frame_same, start_same, finish_same, leaf_same, row_same, align_same, Plain, more_same, plain_root, NoPartsAt, plain_nodes, root_same}

-- one node
leaf_node : (l : Node) (q : LayoutInput) (ks : Forest Node) → Small l → SameLaid (leaf_laid l q ks) (leaf_laid l (unbased q) ks)
unfolding leaf_laid map_t
leaf_node l q ks v = record {
  same_out = leaf_same l q;
  same_rows = ap (λ (r : Row). node r (map_f forgot (zeros_f ks))) (row_same q (leaf_output l.site.style.measure q) l.probe v ∙ ap (λ (o : LayoutOutput). forgot (laid_row (unbased q) o l.probe)) (leaf_same l q));
}

box_node : (l : Node) (q : LayoutInput) (f : Frame) (a b : Stacked) → Small l → SameStack a b → SameLaid (block_laid l q f a) (block_laid l (unbased q) (no_basis f) b)
unfolding block_laid map_t
box_node l q f a b v h =
    let s = l.site.style in
    let d = finish_same s q f a.last ∙ ap (finished s (unbased q) (no_basis f)) h.same_last in
    let e = row_same q (finished s q f a.last).output l.probe v in
    record {
      same_out = ap (λ x. x.output) d;
      same_rows = rw (e, align_same (finished s q f a.last).shift a.rows b.rows h.same_rows) (ap (λ x. node (forgot (laid_row (unbased q) x.output l.probe)) (map_f forgot (align_f x.shift b.rows))) d);
    }

lay_node : (l : Node) (ks : Forest Node) (q : LayoutInput) (found : Float) → Plain l → ((f : Frame) (c : Cursor) → SameStack (lay_f ks f c) (before_f ks (no_basis f) c))
    → SameLaid (lay_t (node l ks) q found) (before_t (node l ks) (unbased q) found)
lay_node l ks q found n h = go (is_leaf l.site.style.kind) refl
  where
    go : (b : Bool) → is_leaf l.site.style.kind ≡ b → SameLaid (lay_t (node l ks) q found) (before_t (node l ks) (unbased q) found)
    go true e = rw (lay_t_leaf l ks q found e, before_t_at l ks (unbased q) found true e) (leaf_node l q ks n.small)
    go false e =
        let f : Frame = frame_of l.site.style q found in
        rw (lay_t_block l ks q found e, before_t_at l ks (unbased q) found false e, ← frame_same l.site.style q found n.parts, ← start_same f) (box_node l q f _ _ n.small (h f (start_of f)))

mutual
  unfolding AllT

  same_t : (t : Tree Node) → AllT Plain t → (q : LayoutInput) (found : Float) → SameLaid (lay_t t q found) (before_t t (unbased q) found)
  same_t (node l ks) h q found = lay_node l ks q found h.0 (λ f c. same_f_lem ks h.1 f c)

  same_f_lem : (ts : Forest Node) → AllF Plain ts → (f : Frame) (c : Cursor) → SameStack (lay_f ts f c) (before_f ts (no_basis f) c)
  same_f_lem none h f c = rw (lay_f_none f c, before_f_none (no_basis f) c) (record { same_last = refl; same_rows = refl })
  same_f_lem (more t ts) h f c = more_same t ts f c (plain_root t h.0) (λ q. same_t t h.0 q zero_f) (λ d. same_f_lem ts h.1 f d)

-- ---- Without a fraction in fields 1, 3, 5, 18 and 20: the answer as before, and each row but for number 14 and bit 8.
pub as_before : (t : Tree Site) (q : Question) → AllT NoPartsAt t → SameLaid (fresh t (root_input q)) (before t (root_input q))
unfolding fresh relaid before
as_before t q h =
    let p = width_pass (map_t blank t) (root_input q) in
    rw (root_same q) at (same_t p.nodes (plain_nodes t (root_input q) h) (root_input q) p.found)
