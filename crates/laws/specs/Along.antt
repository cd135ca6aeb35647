-- Old rows that are those of a fresh layout: step by step, down to the children and along them.
use Rattle.std.specs.Prelude.{◌≡◌, Bool, true, false, ℕ, Float, Option, None, Some}
use Rattle.std.proofs.Math.Path.{refl}
use Rattle.std.proofs.Common.{sym, ap, ◌∙◌}
use Rattle.geometry.specs.Geometry.{zero_f}
use Rattle.geometry.specs.declared.Point.{Point}
use Rattle.style.specs.declared.Style.{Style}
use Rattle.tree.specs.Tree.{Tree, Forest, node, none, more, map_t, map_f, root_t, on_root}
use Rattle.tree.proofs.Laws.{map_t_node, map_f_more, root_t_node, root_t_map, on_root_node}
use Rattle.style.specs.Flow.{is_leaf, flow_of}
use Rattle.steps.specs.Stack.{start_of, question_to, item_of, place_of, stepped, line_of, edges_of, past_aside, past_hidden}
use Rattle.steps.specs.Row.{Row, ProbeWords, is_laid, no_row, hidden_row, aside_row, laid_row, put_at}
use Rattle.steps.specs.Page.{Node}
use Rattle.steps.specs.Kept.{Laid, zeros_t, zeros_f}
use Rattle.steps.specs.Layout.{lay_t, lay_f, ask_t, skip, aside, place, lower_f, align_f}
use Rattle.style.specs.declared.Flow.{Flow}
use Rattle.style.specs.declared.Flow.TheVariants.{Gone, Out, In}
use Rattle.steps.specs.declared.LayoutInput.{LayoutInput}
use Rattle.steps.specs.declared.Frame.{Frame}
use Rattle.steps.specs.declared.Cursor.{Cursor}
use Rattle.steps.proofs.Clauses.{frame_at, style_t, lay_f_gone, lay_f_out, lay_f_in, ask_t_new, leaf_rows, block_rows, stack_of, shift_of}
use Rattle.steps.proofs.Zeros.{unlaid_kept, no_row_lem, zeros_t_lem, zeros_f_lem}
use Rattle.laws.specs.Trees.{kids_t, first_f, rest_f}
use Rattle.laws.specs.Bits.{moved, moved_y, moved_to, moved_laid, moved_hidden, moved_aside, laid_row_lem}
use Rattle.laws.specs.Pages.{Both, site_by}

-- after the width pass: what a node's probe words are now, and whether it was probed anew
pub record Full : Type 0 where
  pub both : Both
  pub probe : ProbeWords
  pub anew : Bool

abbrev pub old_f : Full → Row
old_f l = l.both.old

-- step M, one child at a time
pub align_none : (d : Option Float) → align_f d none ≡ none
unfolding align_f lower_f
align_none None = refl
align_none (Some d) = refl

pub align_more : (d : Option Float) (t : Tree Row) (ts : Forest Row) → align_f d (more t ts) ≡ more (on_root (moved d) t) (align_f d ts)
unfolding align_f lower_f on_root
align_more None (node r ks) ts = refl
align_more (Some d) (node r ks) ts = refl

pub on_zeros : {A : Type 0} (f : Row → Row) (r s : Row) (t : Tree A) → f r ≡ s → on_root f (on_root (λ _. r) (zeros_t t)) ≡ on_root (λ _. s) (zeros_t t)
unfolding on_root zeros_t map_t
on_zeros f r s (node a ks) e = rw e

-- a placed row that is laid is moved to another place
pub on_laid : (d : Option Float) (p : Point Float) (n : ℕ) (u : Tree Row) → is_laid (root_t u) ≡ true → on_root (moved d) (on_root (put_at p n) u) ≡ on_root (put_at (moved_to d p) n) u
unfolding on_root root_t
on_laid d p n (node r ks) e = ap (λ (s : Row). node s ks) (moved_laid d p n r e)

pub ask_unlaid : (t : Tree Node) (q : LayoutInput) → is_laid (root_t t).old ≡ false → ask_t t q ≡ lay_t t q zero_f
ask_unlaid t q e = ask_t_new t q (unlaid_kept t q e)

pub root_row : (n : Node) (ks : Forest Node) (q : LayoutInput) (found : Float) → root_t (lay_t (node n ks) q found).rows ≡ laid_row q (lay_t (node n ks) q found).out n.probe
root_row n ks q found = go (is_leaf n.site.style.kind) refl
  where
    go : (b : Bool) → is_leaf n.site.style.kind ≡ b → root_t (lay_t (node n ks) q found).rows ≡ laid_row q (lay_t (node n ks) q found).out n.probe
    go true e = ap root_t (leaf_rows n ks q found e) ∙ root_t_node _ _
    go false e = ap root_t (block_rows n ks q found e) ∙ root_t_node _ _

pub root_laid : (t : Tree Node) (q : LayoutInput) (found : Float) → is_laid (root_t (lay_t t q found).rows) ≡ true
root_laid (node n ks) q found = ap is_laid (root_row n ks q found) ∙ laid_row_lem q _ n.probe

-- a page of which nothing is kept, with some styles and some probe words
module _ (st : Full → Style) (pr : Full → ProbeWords) where
  abbrev pub view_n : Full → Node
  view_n l = record { site = site_by l.both.node (st l); old = no_row; probe = pr l; anew = false }

  -- the old rows of a subtree are those of its fresh layout, but for the place of its root; and of siblings
  abbrev pub RowsT : Tree Full → LayoutInput → Float → Point Float → ℕ → Type 0
  RowsT t q found p n = map_t old_f t ≡ on_root (put_at p n) (lay_t (map_t view_n t) q found).rows

  abbrev pub RowsF : Forest Full → Option Float → Frame → Cursor → Type 0
  RowsF ts d f c = map_f old_f ts ≡ align_f d (lay_f (map_f view_n ts) f c).rows

  root-view : (t : Tree Full) → style_t (map_t view_n t) ≡ st (root_t t)
  root-view t = ap (λ (n : Node). n.site.style) (root_t_map view_n t)

  pub ask-view : (t : Tree Full) (q : LayoutInput) → ask_t (map_t view_n t) q ≡ lay_t (map_t view_n t) q zero_f
  ask-view t q = ask_unlaid (map_t view_n t) q (ap (λ (n : Node). is_laid n.old) (root_t_map view_n t) ∙ no_row_lem)

  -- the root's own row
  pub own_row : (l : Full) (ks : Forest Full) (q : LayoutInput) (found : Float) (p : Point Float) (n : ℕ) → RowsT (node l ks) q found p n
      → l.both.old ≡ put_at p n (laid_row q (lay_t (map_t view_n (node l ks)) q found).out (pr l))
  own_row l ks q found p n e =
      let r : root_t (lay_t (map_t view_n (node l ks)) q found).rows ≡ laid_row q (lay_t (map_t view_n (node l ks)) q found).out (pr l) =
      ap (λ (u : Tree Node). root_t (lay_t u q found).rows) (map_t_node view_n l ks) ∙ root_row (view_n l) (map_f view_n ks) q found
      ∙ ap (λ (u : Tree Node). laid_row q (lay_t u q found).out (pr l)) (sym (map_t_node view_n l ks)) in
      sym (ap root_t (map_t_node old_f l ks) ∙ root_t_node (old_f l) _) ∙ ap root_t e ∙ root_on _ _ ∙ ap (put_at p n) r
    where
      root_on : (f : Row → Row) (u : Tree Row) → root_t (on_root f u) ≡ f (root_t u)
      root_on f (node r us) = ap root_t (on_root_node f r us) ∙ root_t_node (f r) us ∙ ap f (sym (root_t_node r us))

  kids-on : (f : Row → Row) (u : Tree Row) → kids_t (on_root f u) ≡ kids_t u
  unfolding on_root
  kids-on f (node r us) = refl

  kids-rows : (l : Full) (ks : Forest Full) (q : LayoutInput) (found : Float) (p : Point Float) (n : ℕ) → RowsT (node l ks) q found p n → map_f old_f ks ≡ kids_t (lay_t (node (view_n l) (map_f view_n ks)) q found).rows
  kids-rows l ks q found p n e =
      ap kids_t (sym (map_t_node old_f l ks) ∙ e) ∙ kids-on _ _ ∙ ap (λ (u : Tree Node). kids_t (lay_t u q found).rows) (map_t_node view_n l ks)

  -- down: a leaf's children have rows of zeros, a block's are stacked
  pub down-leaf : (l : Full) (ks : Forest Full) (q : LayoutInput) (found : Float) (p : Point Float) (n : ℕ) → RowsT (node l ks) q found p n → is_leaf (st l).kind ≡ true → map_f old_f ks ≡ zeros_f ks
  down-leaf l ks q found p n e b = kids-rows l ks q found p n e ∙ ap kids_t (leaf_rows (view_n l) (map_f view_n ks) q found b) ∙ zeros_f_lem view_n ks

  pub down : (l : Full) (ks : Forest Full) (q : LayoutInput) (found : Float) (p : Point Float) (n : ℕ) → RowsT (node l ks) q found p n → is_leaf (st l).kind ≡ false
      → RowsF ks (shift_of (view_n l) q found (stack_of (view_n l) (map_f view_n ks) q found).last) (frame_at (view_n l) q found) (start_of (frame_at (view_n l) q found))
  down l ks q found p n e b = kids-rows l ks q found p n e ∙ ap kids_t (block_rows (view_n l) (map_f view_n ks) q found b)

  -- along: a hidden child, one out of flow, one that is laid
  pub record Hidden (t : Tree Full) (ts : Forest Full) (d : Option Float) (f : Frame) (c : Cursor) : Type 0 where
    pub rows : map_t old_f t ≡ on_root (λ _. hidden_row c.count) (zeros_t t)
    pub rest : RowsF ts d f (past_hidden c)

  pub record Aside (t : Tree Full) (ts : Forest Full) (d : Option Float) (f : Frame) (c : Cursor) : Type 0 where
    pub rows : map_t old_f t ≡ on_root (λ _. aside_row (edges_of f).start (moved_y d (line_of f c)) (edges_of f).end c.shown.0) (zeros_t t)
    pub rest : RowsF ts d f (past_aside c)

  abbrev pub laid_in : Tree Full → Frame → Laid
  laid_in t f = lay_t (map_t view_n t) (question_to f (st (root_t t))) zero_f

  abbrev pub place_for : Tree Full → Option Float → Frame → Cursor → Point Float
  place_for t d f c = moved_to d (place_of f c (item_of f (st (root_t t))) (laid_in t f).out)

  abbrev pub next_for : Tree Full → Frame → Cursor → Cursor
  next_for t f c = stepped f c (item_of f (st (root_t t))) (laid_in t f).out

  pub record Shown (t : Tree Full) (ts : Forest Full) (d : Option Float) (f : Frame) (c : Cursor) : Type 0 where
    pub rows : RowsT t (question_to f (st (root_t t))) zero_f (place_for t d f c) c.shown.0
    pub rest : RowsF ts d f (next_for t f c)

  first_of : (t : Tree Full) (ts : Forest Full) (u : Tree Row) (us : Forest Row) → map_f old_f (more t ts) ≡ more u us → map_t old_f t ≡ u
  first_of t ts u us e = ap (first_f u) (sym (map_f_more old_f t ts) ∙ e)

  rest_of : (t : Tree Full) (ts : Forest Full) (u : Tree Row) (us : Forest Row) → map_f old_f (more t ts) ≡ more u us → map_f old_f ts ≡ us
  rest_of t ts u us e = ap rest_f (sym (map_f_more old_f t ts) ∙ e)

  flow-view : (t : Tree Full) (w : Flow) → flow_of (st (root_t t)) ≡ w → flow_of (style_t (map_t view_n t)) ≡ w
  flow-view t w e = ap flow_of (root-view t) ∙ e

  -- the rows of siblings, the first apart
  pub gone-rows : (t : Tree Full) (ts : Forest Full) (d : Option Float) (f : Frame) (c : Cursor) → flow_of (st (root_t t)) ≡ Gone
      → align_f d (lay_f (map_f view_n (more t ts)) f c).rows ≡ more (on_root (λ _. hidden_row c.count) (zeros_t t)) (align_f d (lay_f (map_f view_n ts) f (past_hidden c)).rows)
  unfolding skip
  gone-rows t ts d f c e =
      rw (map_f_more view_n t ts, lay_f_gone (map_t view_n t) (map_f view_n ts) f c (flow-view t Gone e), zeros_t_lem view_n t, align_more, on_zeros (moved d) _ _ t (moved_hidden d c.count))

  pub out-rows : (t : Tree Full) (ts : Forest Full) (d : Option Float) (f : Frame) (c : Cursor) → flow_of (st (root_t t)) ≡ Out
      → align_f d (lay_f (map_f view_n (more t ts)) f c).rows
      ≡ more (on_root (λ _. aside_row (edges_of f).start (moved_y d (line_of f c)) (edges_of f).end c.shown.0) (zeros_t t)) (align_f d (lay_f (map_f view_n ts) f (past_aside c)).rows)
  unfolding aside
  out-rows t ts d f c e =
      rw (map_f_more view_n t ts, lay_f_out (map_t view_n t) (map_f view_n ts) f c (flow-view t Out e), zeros_t_lem view_n t, align_more, on_zeros (moved d) _ _ t (moved_aside d (edges_of f).start (line_of f c) (edges_of f).end c.shown.0))

  pub in_rows : (t : Tree Full) (ts : Forest Full) (d : Option Float) (f : Frame) (c : Cursor) → flow_of (st (root_t t)) ≡ In
      → align_f d (lay_f (map_f view_n (more t ts)) f c).rows ≡ more (on_root (put_at (place_for t d f c) c.shown.0) (laid_in t f).rows) (align_f d (lay_f (map_f view_n ts) f (next_for t f c)).rows)
  unfolding place
  in_rows t ts d f c e =
      rw (map_f_more view_n t ts, lay_f_in (map_t view_n t) (map_f view_n ts) f c (flow-view t In e), root-view t, ask-view t (question_to f (st (root_t t))), align_more, on_laid d (place_of f c (item_of f (st (root_t t))) (laid_in t f).out) c.shown.0 (laid_in t f).rows (root_laid (map_t view_n t) _ zero_f))

  pub along-gone : (t : Tree Full) (ts : Forest Full) (d : Option Float) (f : Frame) (c : Cursor) → RowsF (more t ts) d f c → flow_of (st (root_t t)) ≡ Gone → Hidden t ts d f c
  along-gone t ts d f c e w = record { rows = first_of t ts _ _ (e ∙ gone-rows t ts d f c w); rest = rest_of t ts _ _ (e ∙ gone-rows t ts d f c w) }

  pub along-out : (t : Tree Full) (ts : Forest Full) (d : Option Float) (f : Frame) (c : Cursor) → RowsF (more t ts) d f c → flow_of (st (root_t t)) ≡ Out → Aside t ts d f c
  along-out t ts d f c e w = record { rows = first_of t ts _ _ (e ∙ out-rows t ts d f c w); rest = rest_of t ts _ _ (e ∙ out-rows t ts d f c w) }

  pub along-in : (t : Tree Full) (ts : Forest Full) (d : Option Float) (f : Frame) (c : Cursor) → RowsF (more t ts) d f c → flow_of (st (root_t t)) ≡ In → Shown t ts d f c
  along-in t ts d f c e w = record { rows = first_of t ts _ _ (e ∙ in_rows t ts d f c w); rest = rest_of t ts _ _ (e ∙ in_rows t ts d f c w) }
