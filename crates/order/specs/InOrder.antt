-- The rows of a layout of steady nodes with nothing kept are in order. Assumes nothing.
use Rattle.std.specs.Prelude.{◌≡◌, refl, Bool, true, false, Float, Option, None, Some}
use Rattle.std.proofs.Common.{sym, ap, subst, ◌∙◌, true≢false}
use Rattle.std.specs.Float.Ieee.{lt, add}
use Rattle.std.specs.Float.{binary32}
use Rattle.std.specs.Float.Ieee.Fits.{add-fits}
use Rattle.geometry.specs.Floats.{◌⊕◌}
use Rattle.geometry.specs.Geometry.{zero_f}
use Rattle.style.specs.Flow.{is_leaf, flow_of}
use Rattle.style.specs.declared.Flow.{Flow}
use Rattle.style.specs.declared.Flow.TheVariants.{Gone, Out, In}
use Rattle.tree.specs.Tree.{Tree, Forest, node, none, more, root_t, on_root, map_t}
use Rattle.steps.specs.Stack.{start_of, question_to, item_of, stepped, place_y, gap_of, top_margins, bottom_margins, past_through, past_aside, past_hidden}
use Rattle.steps.specs.Height.{step_m}
use Rattle.steps.specs.Through.{finished}
use Rattle.steps.specs.Row.{Row, is_laid}
use Rattle.steps.specs.Page.{Node}
use Rattle.steps.specs.Kept.{zeros_t, zeros_f}
use Rattle.steps.specs.Layout.{lay_t, lay_f, align_f}
use Rattle.steps.specs.declared.LayoutInput.{LayoutInput}
use Rattle.steps.specs.declared.LayoutOutput.{LayoutOutput}
use Rattle.steps.specs.declared.BlockItem.{BlockItem}
use Rattle.steps.specs.declared.Frame.{Frame}
use Rattle.steps.specs.declared.Cursor.{Cursor}
use Rattle.steps.proofs.Clauses.{frame_at, style_t, lay_f_none, leaf_rows, block_rows, stack_of, shift_of}
use Rattle.steps.proofs.Zeros.{no_row_lem}
use Rattle.laws.specs.Trees.{AllT, AllF}
use Rattle.sums.specs.Sums.{lt_self}
use Rattle.sums.proofs.Sums.{add_chain}
use Rattle.order.specs.Sets.{Up}
use Rattle.order.specs.Steady.{Steady}
use Rattle.order.specs.Rows.{AfterF, InOrderT, InOrderF}
use Rattle.order.specs.Answers.{answer, child_height}
use Rattle.order.specs.Cursors.{line_past, Good, item_offset, start_good, hidden_good, aside_good, tops_up, bottoms_up, top_of, step_through, step_box, place_is, own_edge}
use Rattle.order.specs.Stacks.{NodeOk, root_ok, next_c, gone_tree, out_tree, in_tree, rows-gone, rows_out_lem, rows_in, SetsT, sets_t, next_good, row_of, root_in, row_top, gone_root, out_root, after_unlaid, after_laid}
use Rattle.order.specs.Through.{Held, held_through, held_start, held_hidden, held_aside, held_by}

-- ---- one child more

-- a box stands where it is held
place_held : (f : Frame) (c : Cursor) (i : BlockItem) (o : LayoutOutput) (b : Float) → Up (top_margins i o) → i.offset.y ≡ zero_f → Held f c b → lt (place_y f c i o) b ≡ false
place_held f c i o b u e h =
    let w = top_of f c (top_margins i o) in
    ap (λ (z : Float). lt z b) (place_is f c i o e) ∙ add_chain binary32 w zero_f b (add-fits binary32 c.y (gap_of f c (top_margins i o))) (lt_self zero_f) (h (top_margins i o) u)

-- and what comes after it too
step_held : (f : Frame) (c : Cursor) (i : BlockItem) (o : LayoutOutput) (b : Float) → Up (top_margins i o) → Up (bottom_margins i o) → Good (stepped f c i o) → lt o.size.height zero_f ≡ false → Held f c b → Held f (stepped f c i o) b
step_held f c i o b u v g p h = go o.through refl
  where
    go : (w : Bool) → o.through ≡ w → Held f (stepped f c i o) b
    go true e = subst (λ (z : Cursor). Held f z b) (sym (step_through f c i o e)) (held_through f c (top_margins i o) (bottom_margins i o) (line_past f c i o) b u v h)
    go false e =
        held_by f (stepped f c i o) b g
        (ap (λ (z : Float). lt z b) (step_box f c i o e)
        ∙ add_chain binary32 (top_of f c (top_margins i o)) o.size.height b (add-fits binary32 c.y (gap_of f c (top_margins i o))) p (h (top_margins i o) u))

-- what comes after a box is held at its bottom edge
pub edge_held : (f : Frame) (c : Cursor) (i : BlockItem) (o : LayoutOutput) → Up (top_margins i o) → Up (bottom_margins i o) → i.offset.y ≡ zero_f → Good c → Good (stepped f c i o)
    → (o.through ≡ true → (w : Float) → lt w (top_of f c (top_margins i o)) ≡ false → lt w (add binary32 (add binary32 (top_of f c (top_margins i o)) zero_f) o.size.height) ≡ false)
    → Held f (stepped f c i o) (place_y f c i o ⊕ o.size.height)
edge_held f c i o u v s g n z = go o.through refl
  where
    go : (w : Bool) → o.through ≡ w → Held f (stepped f c i o) (place_y f c i o ⊕ o.size.height)
    go false e = held_by f (stepped f c i o) _ n (own_edge f c i o e s)
    go true e =
        subst (λ (k : Cursor). Held f k (place_y f c i o ⊕ o.size.height)) (sym (step_through f c i o e))
        (subst (λ (y : Float). Held f (past_through c (top_margins i o) (bottom_margins i o) (line_past f c i o)) (y ⊕ o.size.height)) (sym (place_is f c i o s)) (λ t q. z e _ (held_start f c (top_margins i o) (bottom_margins i o) (line_past f c i o) g u v t q)))

-- ---- all that is stacked later

abbrev pub HeldOf : Forest Node → Type 0
HeldOf ts = (f : Frame) (c : Cursor) (b : Float) → Good c → Held f c b → AfterF b (lay_f ts f c).rows

held_more : (t : Tree Node) (ts : Forest Node) → NodeOk (root_t t) → SetsT t → HeldOf ts → HeldOf (more t ts)
held_more t ts n s r f c b g h = go (flow_of (style_t t)) refl
  where
    go : (w : Flow) → flow_of (style_t t) ≡ w → AfterF b (lay_f (more t ts) f c).rows
    go Gone e = subst (AfterF b) (sym (rows-gone t ts f c e)) (after_unlaid b (gone_tree t c) (lay_f ts f (past_hidden c)).rows (gone_root t c) (r f (past_hidden c) b (hidden_good c g) (held_hidden f c b h)))
    go Out e = subst (AfterF b) (sym (rows_out_lem t ts f c e)) (after_unlaid b (out_tree t f c) (lay_f ts f (past_aside c)).rows (out_root t f c) (r f (past_aside c) b (aside_good c g) (held_aside f c b h)))
    go In e =
        let o = answer t f in
        let i = item_of f (style_t t) in
        let k = s (question_to f (style_t t)) zero_f in
        let u = tops_up f (style_t t) o n.1 k in
        let v = bottoms_up f (style_t t) o n.1 k in
        let m = next_good t f c n k g in
        subst (AfterF b) (sym (rows_in t ts f c n e))
        (after_laid b (in_tree t f c) (lay_f ts f (next_c t f c)).rows (row_of t f c) (root_in t f c)
        (ap (λ (z : Float). lt z b) (row_top t f c) ∙ place_held f c i o b u (item_offset f (style_t t) n.1) h)
        (r f (next_c t f c) b m (step_held f c i o b u v m (child_height t f n.1) h)))

pub held_f : (ts : Forest Node) → AllF NodeOk ts → HeldOf ts
unfolding AllT
held_f none h = λ f c b g k. subst (AfterF b) (sym (ap (λ z. z.rows) (lay_f_none f c))) tt
held_f (more t ts) h = held_more t ts (root_ok t h.0) (sets_t t h.0) (held_f ts h.1)

-- ---- every row

zero_root : (t : Tree Node) → is_laid (root_t (zeros_t t)) ≡ false
unfolding zeros_t map_t root_t
zero_root (node l ks) = no_row_lem

mutual
  unfolding zeros_t zeros_f map_t

  pub zeros_t_lem : (t : Tree Node) → InOrderT (zeros_t t)
  zeros_t_lem (node l ks) = zeros_f_lem ks

  zeros_f_lem : (ts : Forest Node) → InOrderF (zeros_f ts)
  zeros_f_lem none = tt
  zeros_f_lem (more t ts) = (λ l. absurd (true≢false (sym l ∙ zero_root t)), zeros_t_lem t, zeros_f_lem ts)

pub on_root_lem : (g : Row → Row) (u : Tree Row) → InOrderT u → InOrderT (on_root g u)
unfolding on_root
on_root_lem g (node r us) o = o

abbrev pub RowsT : Tree Node → Type 0
RowsT t = (q : LayoutInput) (found : Float) → InOrderT (lay_t t q found).rows

abbrev pub RowsF : Forest Node → Type 0
RowsF ts = (f : Frame) (c : Cursor) → Good c → InOrderF (lay_f ts f c).rows

-- step M moves nothing
align_same : (d : Option Float) (us : Forest Row) → d ≡ None → align_f d us ≡ us
unfolding align_f
align_same None us e = refl
align_same (Some x) us e = cc

shift_none : (l : Node) (q : LayoutInput) (found : Float) (c : Cursor) → Steady l.site.style → shift_of l q found c ≡ None
unfolding finished step_m
shift_none l q found c h = h.shift _

pub order_node : (l : Node) (ks : Forest Node) → NodeOk l → RowsF ks → RowsT (node l ks)
order_node l ks n r q found = go (is_leaf l.site.style.kind) refl
  where
    go : (b : Bool) → is_leaf l.site.style.kind ≡ b → InOrderT (lay_t (node l ks) q found).rows
    go true e = subst InOrderT (sym (leaf_rows l ks q found e)) (zeros_f_lem ks)
    go false e =
        subst InOrderT (sym (block_rows l ks q found e))
        (subst InOrderF (sym (align_same (shift_of l q found (stack_of l ks q found).last) (stack_of l ks q found).rows (shift_none l q found (stack_of l ks q found).last n.1)))
        (r (frame_at l q found) (start_of (frame_at l q found)) (start_good l.site.style q found)))
