-- The boxes are the laid nodes of the page: their numbers, heights and through are those of the rows.
use Rattle.std.specs.Prelude.{◌≡◌, refl, Bool, true, false}
use Rattle.std.proofs.Common.{sym, ap, ◌∙◌}
use Rattle.geometry.specs.Geometry.{zero_f}
use Rattle.style.specs.Flow.{is_leaf}
use Rattle.tree.specs.Tree.{Tree, Forest, node, none, more, map_t, map_f}
use Rattle.tree.proofs.Laws.{map_t_node, map_f_none}
use Rattle.steps.specs.Row.{Row, laid_row}
use Rattle.steps.specs.Page.{Site, Node, blank}
use Rattle.steps.specs.Stack.{start_of}
use Rattle.steps.specs.Kept.{Laid, zeros_f}
use Rattle.steps.specs.Layout.{lay_t, lay_f, fresh}
use Rattle.steps.specs.declared.LayoutInput.{LayoutInput}
use Rattle.steps.specs.declared.LayoutOutput.{LayoutOutput}
use Rattle.steps.proofs.Clauses.{frame_at, stack_of, shift_of, leaf_rows, block_rows, leaf_out}
use Rattle.laws.specs.Trees.{AllT, AllF}
use Rattle.laws.specs.Small.{Small, pass_small}
use Rattle.classes.specs.Margins.{Box}
use Rattle.classes.specs.Real.{box_t, box_f, box_t_at, box_f_none, leaf_box, block_box, UnlaidT, UnlaidF}
use Rattle.classes.specs.Fresh.{nodes_of, found_of, fresh_boxes, fresh_is, fresh_unlaid}
use Rattle.classes.specs.Rows.{said_box, said_row, laid_t, laid_f, align_f_lem, site_n, zeros_below, said_out, own_row, leaf_said, SaysT, SaysF, says_more, sites_are}

says_node : (l : Node) (ks : Forest Node) → Small l → SaysF ks → SaysT (node l ks)
says_node l ks v h q found gap p = go (is_leaf l.site.style.kind) refl
  where
    o : LayoutOutput
    o = (lay_t (node l ks) q found).out

    at : (us : Forest Box) (a : Box) (rs : Forest Row) → said_box a ≡ said_row l.site (laid_row q o l.probe) → map_f said_box us ≡ laid_f (map_f site_n ks) rs
        → map_t said_box (node a us) ≡ laid_t (map_t site_n (node l ks)) (node (laid_row q o l.probe) rs)
    at us a rs e d = rw (map_t_node said_box a us, map_t_node site_n l ks, e, d)

    go : (b : Bool) → is_leaf l.site.style.kind ≡ b → map_t said_box (box_t (node l ks) q found gap p) ≡ laid_t (map_t site_n (node l ks)) (lay_t (node l ks) q found).rows
    go true e =
        ap (map_t said_box) (box_t_at l ks q found gap p true e)
        ∙ at none (leaf_box l q gap p) (zeros_f ks) (leaf_said l q gap p ∙ ap (said_out l.site) (sym (leaf_out l ks q found e)) ∙ own_row l.site q o l.probe v) (map_f_none said_box ∙ sym (zeros_below ks))
        ∙ ap (laid_t (map_t site_n (node l ks))) (sym (leaf_rows l ks q found e))
    go false e =
        let f = frame_at l q found in
        ap (map_t said_box) (box_t_at l ks q found gap p false e)
        ∙ at (box_f ks f (start_of f)) (block_box l ks q found gap p) _ (own_row l.site q o l.probe v) (h f (start_of f) ∙ sym (align_f_lem (shift_of l q found (stack_of l ks q found).last) (map_f site_n ks) (stack_of l ks q found).rows))
        ∙ ap (laid_t (map_t site_n (node l ks))) (sym (block_rows l ks q found e))

mutual
  unfolding AllT

  says_t : (t : Tree Node) → UnlaidT t → AllT Small t → SaysT t
  says_t (node l ks) u v = says_node l ks v.0 (says_f ks u.1 v.1)

  says_f : (ts : Forest Node) → UnlaidF ts → AllF Small ts → SaysF ts
  says_f none u v = λ f c. ap (map_f said_box) (box_f_none f c) ∙ map_f_none said_box ∙ ap (λ (k : Forest Site). laid_f k (lay_f none f c).rows) (sym (map_f_none site_n))
  says_f (more t ts) u v = says_more t ts u.0 (says_t t u.0 v.0) (says_f ts u.1 v.1)

-- The boxes are the laid nodes, in their order: each has its node's number, and the height and through of its row.
pub boxes_are_rows : (t : Tree Site) (q : LayoutInput) → map_t said_box (fresh_boxes t q) ≡ laid_t t (fresh t q).rows
boxes_are_rows t q =
    says_t (nodes_of t q) (fresh_unlaid t q) (pass_small (map_t blank t) q) q (found_of t q) zero_f false
    ∙ ap (λ (u : Tree Site). laid_t u (lay_t (nodes_of t q) q (found_of t q)).rows) (sites_are t q)
    ∙ ap (λ (z : Laid). laid_t t z.rows) (sym (fresh_is t q))
