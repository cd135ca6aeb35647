-- The rows of a stack of steady children, with nothing kept: what is stacked later stands not above what the stack is not above. Assumes nothing.
use Rattle.std.specs.Prelude.{◌≡◌, refl, Bool, true, false, Float}
use Rattle.std.proofs.Common.{sym, ap, subst, ◌∙◌, true≢false}
use Rattle.std.specs.Float.Ieee.{lt}
use Rattle.geometry.specs.Floats.{◌⊕◌}
use Rattle.geometry.specs.Geometry.{zero_f}
use Rattle.style.specs.declared.Style.{Style}
use Rattle.style.specs.Flow.{is_leaf, flow_of}
use Rattle.style.specs.declared.Flow.{Flow}
use Rattle.style.specs.declared.Flow.TheVariants.{Gone, Out, In}
use Rattle.tree.specs.Tree.{Tree, Forest, node, none, more, root_t, on_root}
use Rattle.margin.specs.declared.CollapsibleMarginSet.{CollapsibleMarginSet}
use Rattle.steps.specs.Stack.{start_of, question_to, item_of, stepped, past_aside, past_hidden, place_of, place_y, line_of, edges_of}
use Rattle.steps.specs.Through.{finished, leaf_output, output_of, passed_out}
use Rattle.steps.specs.Row.{Row, is_laid, hidden_row, aside_row, laid_row, put_at}
use Rattle.steps.specs.Page.{Node}
use Rattle.steps.specs.Kept.{zeros_t}
use Rattle.steps.specs.Layout.{lay_t, lay_f, skip, aside, place}
use Rattle.steps.specs.declared.LayoutInput.{LayoutInput}
use Rattle.steps.specs.declared.Frame.{Frame}
use Rattle.steps.specs.declared.Cursor.{Cursor}
use Rattle.steps.proofs.Clauses.{frame_at, style_t, lay_f_none, lay_f_gone, lay_f_out, lay_f_in, leaf_out, block_out, stack_of}
use Rattle.laws.specs.Trees.{AllT, AllF}
use Rattle.laws.specs.Bits.{hidden_row_lem, aside_row_lem}
use Rattle.laws.specs.Along.{ask_unlaid, root_row}
use Rattle.order.specs.Sets.{Up, none_up, set_up}
use Rattle.order.specs.Steady.{Steady}
use Rattle.order.specs.Rows.{top_edge, bottom_edge, AfterF}
use Rattle.order.specs.Answers.{answer}
use Rattle.order.specs.Cursors.{Good, Sets, start_good, hidden_good, aside_good, tops_up, bottoms_up, stepped_good}

-- no row laid, and a steady style
abbrev pub NodeOk : Node → Type 0
NodeOk n = (is_laid n.old ≡ false) × Steady n.site.style

pub root_ok : (t : Tree Node) → AllT NodeOk t → NodeOk (root_t t)
unfolding AllT root_t
root_ok (node l ks) h = h.0

-- ---- where the stack goes on, and the rows of a child

abbrev pub next_c : Tree Node → Frame → Cursor → Cursor
next_c t f c = stepped f c (item_of f (style_t t)) (answer t f)

abbrev pub gone_tree : Tree Node → Cursor → Tree Row
gone_tree t c = on_root (λ _. hidden_row c.count) (zeros_t t)

abbrev pub out_tree : Tree Node → Frame → Cursor → Tree Row
out_tree t f c = on_root (λ _. aside_row (edges_of f).start (line_of f c) (edges_of f).end c.shown.0) (zeros_t t)

abbrev pub in_tree : Tree Node → Frame → Cursor → Tree Row
in_tree t f c = on_root (put_at (place_of f c (item_of f (style_t t)) (answer t f)) c.shown.0) (lay_t t (question_to f (style_t t)) zero_f).rows

module _ (t : Tree Node) (ts : Forest Node) (f : Frame) (c : Cursor) where
  last-gone : flow_of (style_t t) ≡ Gone → (lay_f (more t ts) f c).last ≡ (lay_f ts f (past_hidden c)).last
  unfolding skip
  last-gone e = rw (lay_f_gone t ts f c e)

  last_out : flow_of (style_t t) ≡ Out → (lay_f (more t ts) f c).last ≡ (lay_f ts f (past_aside c)).last
  unfolding aside
  last_out e = rw (lay_f_out t ts f c e)

  last-in : NodeOk (root_t t) → flow_of (style_t t) ≡ In → (lay_f (more t ts) f c).last ≡ (lay_f ts f (next_c t f c)).last
  unfolding place
  last-in u e = rw (lay_f_in t ts f c e, ask_unlaid t (question_to f (style_t t)) u.0)

  pub rows-gone : flow_of (style_t t) ≡ Gone → (lay_f (more t ts) f c).rows ≡ more (gone_tree t c) (lay_f ts f (past_hidden c)).rows
  unfolding skip
  rows-gone e = rw (lay_f_gone t ts f c e)

  pub rows_out_lem : flow_of (style_t t) ≡ Out → (lay_f (more t ts) f c).rows ≡ more (out_tree t f c) (lay_f ts f (past_aside c)).rows
  unfolding aside
  rows_out_lem e = rw (lay_f_out t ts f c e)

  pub rows_in : NodeOk (root_t t) → flow_of (style_t t) ≡ In → (lay_f (more t ts) f c).rows ≡ more (in_tree t f c) (lay_f ts f (next_c t f c)).rows
  unfolding place
  rows_in u e = rw (lay_f_in t ts f c e, ask_unlaid t (question_to f (style_t t)) u.0)

-- ---- the sets of every answer hold nothing below 0

own_up : (b : Bool) (s : CollapsibleMarginSet) (m : Float) → Up s → lt m zero_f ≡ false → Up (passed_out b s m)
unfolding passed_out
own_up true s m u h = u
own_up false s m u h = set_up m h

leaf_sets : (l : Node) (q : LayoutInput) → Sets (leaf_output l.site.style.measure q)
unfolding leaf_output
leaf_sets l q = record { top = none_up; bottom = none_up }

block_sets : (s : Style) (q : LayoutInput) (f : Frame) (c : Cursor) → Steady s → Good c → Sets (finished s q f c).output
unfolding finished output_of
block_sets s q f c h g = record { top = own_up _ c.top _ g.top (h.above _); bottom = own_up _ c.strut _ g.strut (h.under _) }

sets_node : (l : Node) (ks : Forest Node) (q : LayoutInput) (found : Float) → Steady l.site.style → Good (stack_of l ks q found).last → Sets (lay_t (node l ks) q found).out
sets_node l ks q found h g = go (is_leaf l.site.style.kind) refl
  where
    go : (b : Bool) → is_leaf l.site.style.kind ≡ b → Sets (lay_t (node l ks) q found).out
    go true e = subst Sets (sym (leaf_out l ks q found e)) (leaf_sets l q)
    go false e = subst Sets (sym (block_out l ks q found e)) (block_sets l.site.style q (frame_at l q found) (stack_of l ks q found).last h g)

pub next_good : (t : Tree Node) (f : Frame) (c : Cursor) → NodeOk (root_t t) → Sets (answer t f) → Good c → Good (next_c t f c)
next_good t f c n s g = stepped_good f c (item_of f (style_t t)) (answer t f) g (tops_up f (style_t t) (answer t f) n.1 s) (bottoms_up f (style_t t) (answer t f) n.1 s)

abbrev pub SetsT : Tree Node → Type 0
SetsT t = (q : LayoutInput) (found : Float) → Sets (lay_t t q found).out

abbrev GoodF : Forest Node → Type 0
GoodF ts = (f : Frame) (c : Cursor) → Good c → Good (lay_f ts f c).last

good_more : (t : Tree Node) (ts : Forest Node) → NodeOk (root_t t) → SetsT t → GoodF ts → GoodF (more t ts)
good_more t ts n s r f c g = go (flow_of (style_t t)) refl
  where
    go : (w : Flow) → flow_of (style_t t) ≡ w → Good (lay_f (more t ts) f c).last
    go Gone e = subst Good (sym (last-gone t ts f c e)) (r f (past_hidden c) (hidden_good c g))
    go Out e = subst Good (sym (last_out t ts f c e)) (r f (past_aside c) (aside_good c g))
    go In e = subst Good (sym (last-in t ts f c n e)) (r f (next_c t f c) (next_good t f c n (s (question_to f (style_t t)) zero_f) g))

mutual
  unfolding AllT

  pub sets_t : (t : Tree Node) → AllT NodeOk t → SetsT t
  sets_t (node l ks) h = λ q found. sets_node l ks q found h.0.1 (good_f ks h.1 (frame_at l q found) (start_of (frame_at l q found)) (start_good l.site.style q found))

  pub good_f : (ts : Forest Node) → AllF NodeOk ts → GoodF ts
  good_f none h = λ f c g. subst Good (sym (ap (λ z. z.last) (lay_f_none f c))) g
  good_f (more t ts) h = good_more t ts (root_ok t h.0) (sets_t t h.0) (good_f ts h.1)

-- ---- the row of a child

root_on : (g : Row → Row) (u : Tree Row) → root_t (on_root g u) ≡ g (root_t u)
unfolding root_t on_root
root_on g (node r us) = refl

abbrev pub row_of : Tree Node → Frame → Cursor → Row
row_of t f c = put_at (place_of f c (item_of f (style_t t)) (answer t f)) c.shown.0 (laid_row (question_to f (style_t t)) (answer t f) (root_t t).probe)

tree_row : (t : Tree Node) (q : LayoutInput) → root_t (lay_t t q zero_f).rows ≡ laid_row q (lay_t t q zero_f).out (root_t t).probe
unfolding root_t
tree_row (node l ks) q = root_row l ks q zero_f

pub root_in : (t : Tree Node) (f : Frame) (c : Cursor) → root_t (in_tree t f c) ≡ row_of t f c
root_in t f c =
    root_on (put_at (place_of f c (item_of f (style_t t)) (answer t f)) c.shown.0) (lay_t t (question_to f (style_t t)) zero_f).rows
    ∙ ap (put_at (place_of f c (item_of f (style_t t)) (answer t f)) c.shown.0) (tree_row t (question_to f (style_t t)))

pub row_top : (t : Tree Node) (f : Frame) (c : Cursor) → top_edge (row_of t f c) ≡ place_y f c (item_of f (style_t t)) (answer t f)
unfolding put_at place_of
row_top t f c = refl

pub row_bottom : (t : Tree Node) (f : Frame) (c : Cursor) → bottom_edge (row_of t f c) ≡ place_y f c (item_of f (style_t t)) (answer t f) ⊕ (answer t f).size.height
unfolding put_at place_of laid_row
row_bottom t f c = refl

pub gone_root : (t : Tree Node) (c : Cursor) → is_laid (root_t (gone_tree t c)) ≡ false
gone_root t c = ap is_laid (root_on (λ _. hidden_row c.count) (zeros_t t)) ∙ hidden_row_lem c.count

pub out_root : (t : Tree Node) (f : Frame) (c : Cursor) → is_laid (root_t (out_tree t f c)) ≡ false
out_root t f c = ap is_laid (root_on (λ _. aside_row (edges_of f).start (line_of f c) (edges_of f).end c.shown.0) (zeros_t t)) ∙ aside_row_lem (edges_of f).start (line_of f c) (edges_of f).end c.shown.0

-- ---- siblings one more

pub after_unlaid : (b : Float) (u : Tree Row) (us : Forest Row) → is_laid (root_t u) ≡ false → AfterF b us → AfterF b (more u us)
after_unlaid b u us e a = (λ l. absurd (true≢false (sym l ∙ e)), a)

pub after_laid : (b : Float) (u : Tree Row) (us : Forest Row) (r : Row) → root_t u ≡ r → lt (top_edge r) b ≡ false → AfterF b us → AfterF b (more u us)
after_laid b u us r e h a = (λ l. subst (λ (z : Row). lt (top_edge z) b ≡ false) (sym e) h, a)
