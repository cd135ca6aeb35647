-- The rows of a layout of steady nodes with nothing kept are in order. Assumes nothing.
use Rattle.std.specs.Prelude.{◌≡◌, refl, Float}
use Rattle.std.proofs.Common.{sym, ap, subst, ◌∙◌, true≢false}
use Rattle.std.specs.Float.{binary32}
use Rattle.std.specs.Float.Ieee.Fits.{add-fits}
use Rattle.geometry.specs.Floats.{◌⊕◌}
use Rattle.geometry.specs.Geometry.{zero_f}
use Rattle.style.specs.Flow.{flow_of}
use Rattle.style.specs.declared.Flow.{Flow}
use Rattle.style.specs.declared.Flow.TheVariants.{Gone, Out, In}
use Rattle.tree.specs.Tree.{Tree, Forest, node, none, more, root_t}
use Rattle.steps.specs.Stack.{question_to, item_of, place_of, place_y, line_of, edges_of, gap_of, top_margins, past_aside, past_hidden}
use Rattle.steps.specs.Row.{Row, hidden_row, aside_row, put_at}
use Rattle.steps.specs.Page.{Node}
use Rattle.steps.specs.Kept.{zeros_t}
use Rattle.steps.specs.Layout.{lay_t, lay_f}
use Rattle.steps.specs.declared.Frame.{Frame}
use Rattle.steps.specs.declared.Cursor.{Cursor}
use Rattle.steps.proofs.Clauses.{style_t, lay_f_none}
use Rattle.laws.specs.Trees.{AllT, AllF}
use Rattle.sums.specs.Zeros.{below_edge}
use Rattle.order.specs.Rows.{bottom_edge, AfterF, InOrderF}
use Rattle.order.specs.Answers.{answer, through_zero}
use Rattle.order.specs.Cursors.{Good, Sets, item_offset, hidden_good, aside_good, tops_up, bottoms_up, top_of}
use Rattle.order.specs.Stacks.{NodeOk, root_ok, next_c, rows-gone, rows_out_lem, rows_in, SetsT, sets_t, next_good, row_of, root_in, row_bottom, gone_root, out_root}
use Rattle.order.specs.InOrder.{edge_held, HeldOf, held_f, zeros_t_lem, on_root_lem, RowsT, RowsF, order_node}

-- what is stacked after a child stands not above its bottom edge
later : (t : Tree Node) (ts : Forest Node) (f : Frame) (c : Cursor) → NodeOk (root_t t) → Sets (answer t f) → HeldOf ts → Good c → AfterF (bottom_edge (row_of t f c)) (lay_f ts f (next_c t f c)).rows
later t ts f c n k r g =
    let o = answer t f in
    let i = item_of f (style_t t) in
    let u = tops_up f (style_t t) o n.1 k in
    let v = bottoms_up f (style_t t) o n.1 k in
    let m = next_good t f c n k g in
    let z = top_of f c (top_margins i o) in
    subst (λ (b : Float). AfterF b (lay_f ts f (next_c t f c)).rows) (sym (row_bottom t f c))
    (r f (next_c t f c) (place_y f c i o ⊕ o.size.height) m
    (edge_held f c i o u v (item_offset f (style_t t) n.1) g m (λ e w. below_edge w z o.size.height (add-fits binary32 c.y (gap_of f c (top_margins i o))) (through_zero t f e))))

order_more : (t : Tree Node) (ts : Forest Node) → NodeOk (root_t t) → SetsT t → RowsT t → HeldOf ts → RowsF ts → RowsF (more t ts)
order_more t ts n s d a r f c g = go (flow_of (style_t t)) refl
  where
    go : (w : Flow) → flow_of (style_t t) ≡ w → InOrderF (lay_f (more t ts) f c).rows
    go Gone e =
        subst InOrderF (sym (rows-gone t ts f c e)) (λ l. absurd (true≢false (sym l ∙ gone_root t c)), on_root_lem (λ _. hidden_row c.count) (zeros_t t) (zeros_t_lem t), r f (past_hidden c) (hidden_good c g))
    go Out e =
        subst InOrderF (sym (rows_out_lem t ts f c e))
        (λ l. absurd (true≢false (sym l ∙ out_root t f c)), on_root_lem (λ _. aside_row (edges_of f).start (line_of f c) (edges_of f).end c.shown.0) (zeros_t t) (zeros_t_lem t), r f (past_aside c) (aside_good c g))
    go In e =
        let k = s (question_to f (style_t t)) zero_f in
        subst InOrderF (sym (rows_in t ts f c n e)) (
          λ x. subst (λ (z : Row). AfterF (bottom_edge z) (lay_f ts f (next_c t f c)).rows) (sym (root_in t f c)) (later t ts f c n k a g),
          on_root_lem (put_at (place_of f c (item_of f (style_t t)) (answer t f)) c.shown.0) (lay_t t (question_to f (style_t t)) zero_f).rows (d (question_to f (style_t t)) zero_f),
          r f (next_c t f c) (next_good t f c n k g),
        )

mutual
  unfolding AllT

  pub order_t : (t : Tree Node) → AllT NodeOk t → RowsT t
  order_t (node l ks) h = order_node l ks h.0 (order_f ks h.1)

  order_f : (ts : Forest Node) → AllF NodeOk ts → RowsF ts
  order_f none h = λ f c g. subst InOrderF (sym (ap (λ z. z.rows) (lay_f_none f c))) tt
  order_f (more t ts) h = order_more t ts (root_ok t h.0) (sets_t t h.0) (order_t t h.0) (held_f ts h.1) (order_f ts h.1)
