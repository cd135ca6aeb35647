-- Rows that a layout or a relayout leaves: bits 0 and 2 are those of the page's styles, whatever the old rows, so the candidate list names its asides.
use Rattle.std.specs.Prelude.{◌≡◌, refl, Bool, true, false, cond, ℕ, Float, Option, None, Some}
use Rattle.std.proofs.Common.{sym, ap, ◌∙◌}
use Rattle.geometry.specs.Geometry.{zero_f}
use Rattle.tree.specs.Tree.{Tree, Forest, node, none, more, map_t, map_f, on_root, root_t}
use Rattle.tree.proofs.Laws.{map_t_node, map_f_none, map_f_more, map_map_f}
use Rattle.style.specs.Flow.{is_leaf, flow_of}
use Rattle.style.specs.declared.Flow.{Flow}
use Rattle.style.specs.declared.Flow.TheVariants.{Gone, Out, In}
use Rattle.steps.specs.Stack.{question_to, item_of, place_of, stepped, edges_of, line_of, past_aside, past_hidden}
use Rattle.steps.specs.Row.{Row, bare, no_row, hidden_row, aside_row, put_at, lowered, is_laid, is_out}
use Rattle.steps.specs.Page.{Node}
use Rattle.steps.specs.Kept.{kept, keep, kept_row, below_row, fix_t, fix_f, zeros_t, zeros_f}
use Rattle.steps.specs.Layout.{Stacked, lay_t, lay_f, ask_t, skip, aside, place, lower_f, align_f}
use Rattle.steps.specs.declared.LayoutInput.{LayoutInput}
use Rattle.steps.specs.declared.Frame.{Frame}
use Rattle.steps.specs.declared.Cursor.{Cursor}
use Rattle.steps.proofs.Clauses.{by_flow, style_t, lay_f_none, lay_f_gone, lay_f_out, lay_f_in, ask_t_kept, ask_t_new, fix_t_at, fix_f_none, fix_f_more, leaf_rows, block_rows}
use Rattle.laws.specs.Bits.{laid_row_lem}
use Rattle.laws.specs.Afresh.{site_of}
use Rattle.tables.specs.Leaves.{LeavesT, LeavesF}
use Rattle.tables.proofs.GoodPage.{leaf_site}
use Rattle.layout.proofs.Count.{low_bits, put_bits, kept_laid, below_laid, kept_old_lem}
use Rattle.listing.specs.Flows.{row_flow, gone_f, seen_t, seen_f}

-- what is wanted of the rows of a node, and of siblings
abbrev want_t : Tree Node → Tree Flow
want_t t = seen_t (map_t site_of t)

abbrev want_f : Forest Node → Forest Flow
want_f ts = seen_f (map_f site_of ts)

-- children of no leaf
abbrev pub Leafy : Tree Node → Type 0
Leafy t = LeavesT leaf_site (map_t site_of t)

abbrev LeafyF : Forest Node → Type 0
LeafyF ts = LeavesF leaf_site (map_f site_of ts)

want_at : (l : Node) (ks : Forest Node) (w : Flow) → flow_of l.site.style ≡ w → want_t (node l ks) ≡ node w (by_flow w (gone_f (map_f site_of ks)) (gone_f (map_f site_of ks)) (want_f ks))
unfolding seen_t map_t
want_at l ks w e = ap (λ (v : Flow). node v (by_flow v (gone_f (map_f site_of ks)) (gone_f (map_f site_of ks)) (want_f ks))) e

want_more : (t : Tree Node) (ts : Forest Node) → want_f (more t ts) ≡ more (want_t t) (want_f ts)
unfolding seen_f map_f
want_more t ts = refl

want_none : want_f none ≡ none
unfolding seen_f map_f
want_none = refl

-- a row that is laid, hidden, out of flow, zero
flow_laid : (r : Row) → is_laid r ≡ true → row_flow r ≡ In
flow_laid r e = ap (λ (b : Bool). cond b In (cond (is_out r) Out Gone)) e

flow_hidden : (n : ℕ) → row_flow (hidden_row n) ≡ Gone
unfolding is_laid is_out hidden_row bare
flow_hidden n = refl

flow_aside : (a l e : Float) (n : ℕ) → row_flow (aside_row a l e n) ≡ Out
unfolding is_laid is_out aside_row bare
flow_aside a l e n = refl

flow_zero : row_flow no_row ≡ Gone
unfolding is_laid is_out no_row bare
flow_zero = refl

laid_node : (r : Row) (ks : Forest Row) → is_laid r ≡ true → map_t row_flow (node r ks) ≡ node In (map_f row_flow ks)
laid_node r ks e = map_t_node row_flow r ks ∙ ap (λ (w : Flow). node w (map_f row_flow ks)) (flow_laid r e)

zeros_gone : (ks : Forest Node) → map_f row_flow (zeros_f ks) ≡ gone_f (map_f site_of ks)
unfolding zeros_f
zeros_gone ks = map_map_f row_flow (λ (_ : Node). no_row) ks ∙ ap (λ (w : Flow). map_f (λ (_ : Node). w) ks) flow_zero ∙ sym (map_map_f _ site_of ks)

-- rows of zeros below a row that is set
on_zeros : (r : Row) (l : Node) (ks : Forest Node) (w : Flow) → row_flow r ≡ w → map_t row_flow (node r (zeros_f ks)) ≡ node w (gone_f (map_f site_of ks))
on_zeros r l ks w e = map_t_node row_flow r _ ∙ rw (e, zeros_gone ks)

-- what leaves the bits of a root leaves the flows
flow_on : (f : Row → Row) → ((r : Row) → (f r).bits ≡ r.bits) → (t : Tree Row) → map_t row_flow (on_root f t) ≡ map_t row_flow t
unfolding map_t on_root is_laid is_out
flow_on f h (node r ks) = rw (h r)

flow_low : (d : Float) (ts : Forest Row) → map_f row_flow (lower_f d ts) ≡ map_f row_flow ts
unfolding lower_f map_f
flow_low d none = refl
flow_low d (more t ts) = rw (flow_on (lowered d) (low_bits d) t, flow_low d ts)

flow_align : (d : Option Float) (ts : Forest Row) → map_f row_flow (align_f d ts) ≡ map_f row_flow ts
unfolding align_f
flow_align None ts = refl
flow_align (Some d) ts = flow_low d ts

-- below kept nodes
fix_node : (l : Node) (ks : Forest Node) → map_f row_flow (fix_f ks) ≡ want_f ks → map_t row_flow (fix_t (node l ks)) ≡ want_t (node l ks)
fix_node l ks h = go (flow_of l.site.style) refl
  where
    go : (w : Flow) → flow_of l.site.style ≡ w → map_t row_flow (fix_t (node l ks)) ≡ want_t (node l ks)
    go Gone e = rw (fix_t_at l ks Gone e, want_at l ks Gone e) (on_zeros _ l ks Gone (flow_hidden _))
    go Out e = rw (fix_t_at l ks Out e, want_at l ks Out e) (on_zeros _ l ks Out (flow_aside _ _ _ _))
    go In e = rw (fix_t_at l ks In e, want_at l ks In e) (laid_node (below_row l) (fix_f ks) (below_laid l) ∙ ap (node In) h)

mutual
  fix_t_lem : (t : Tree Node) → map_t row_flow (fix_t t) ≡ want_t t
  fix_t_lem (node l ks) = fix_node l ks (fix_f_lem ks)

  fix_f_lem : (ts : Forest Node) → map_f row_flow (fix_f ts) ≡ want_f ts
  fix_f_lem none = ap (map_f row_flow) fix_f_none ∙ map_f_none row_flow ∙ sym want_none
  fix_f_lem (more t ts) = rw (fix_f_more t ts, map_f_more, want_more t ts, fix_t_lem t, fix_f_lem ts)

-- a node that is laid or kept: it is in flow, and its children are as they should be
abbrev pub in_t : Tree Node → Tree Flow
in_t (node l ks) = node In (want_f ks)

keep_flows : (l : Node) (ks : Forest Node) (q : LayoutInput) → kept (node l ks) q ≡ true → map_t row_flow (keep (node l ks)).rows ≡ in_t (node l ks)
unfolding keep root_t
keep_flows l ks q e = laid_node (kept_row l) (fix_f ks) (kept_laid l (kept_old_lem (node l ks) q e)) ∙ ap (node In) (fix_f_lem ks)

leaf_gone : (l : Node) (ks : Forest Node) → Leafy (node l ks) → is_leaf l.site.style.kind ≡ true → gone_f (map_f site_of ks) ≡ want_f ks
unfolding LeavesT map_t seen_f
leaf_gone l ks h e = rw (h.0 e)

leaf_kids : (l : Node) (ks : Forest Node) → Leafy (node l ks) → LeafyF ks
unfolding LeavesT map_t
leaf_kids l ks h = h.1

first_leafy : (t : Tree Node) (ts : Forest Node) → LeafyF (more t ts) → Leafy t
unfolding LeavesF map_f
first_leafy t ts h = h.0

rest_leafy : (t : Tree Node) (ts : Forest Node) → LeafyF (more t ts) → LeafyF ts
unfolding LeavesF map_f
rest_leafy t ts h = h.1

node_flows : (l : Node) (ks : Forest Node) (q : LayoutInput) (found : Float) → Leafy (node l ks) → ((f : Frame) (c : Cursor) → map_f row_flow (lay_f ks f c).rows ≡ want_f ks) → map_t row_flow (lay_t (node l ks) q found).rows ≡ in_t (node l ks)
node_flows l ks q found g h = go (is_leaf l.site.style.kind) refl
  where
    go : (b : Bool) → is_leaf l.site.style.kind ≡ b → map_t row_flow (lay_t (node l ks) q found).rows ≡ in_t (node l ks)
    go true e = ap (map_t row_flow) (leaf_rows l ks q found e) ∙ laid_node _ _ (laid_row_lem _ _ _) ∙ ap (node In) (zeros_gone ks ∙ leaf_gone l ks g e)
    go false e = ap (map_t row_flow) (block_rows l ks q found e) ∙ laid_node _ _ (laid_row_lem _ _ _) ∙ ap (node In) (flow_align _ _ ∙ h _ _)

ask_flows : (l : Node) (ks : Forest Node) (q : LayoutInput) → map_t row_flow (lay_t (node l ks) q zero_f).rows ≡ in_t (node l ks) → map_t row_flow (ask_t (node l ks) q).rows ≡ in_t (node l ks)
ask_flows l ks q h = go (kept (node l ks) q) refl
  where
    go : (b : Bool) → kept (node l ks) q ≡ b → map_t row_flow (ask_t (node l ks) q).rows ≡ in_t (node l ks)
    go true e = rw (ask_t_kept (node l ks) q e) (keep_flows l ks q e)
    go false e = rw (ask_t_new (node l ks) q e) h

-- one child and those after it
more_flows : (l : Node) (ks ts : Forest Node) (f : Frame) (c : Cursor) → map_t row_flow (ask_t (node l ks) (question_to f l.site.style)).rows ≡ in_t (node l ks) → ((d : Cursor) → map_f row_flow (lay_f ts f d).rows ≡ want_f ts)
    → map_f row_flow (lay_f (more (node l ks) ts) f c).rows ≡ want_f (more (node l ks) ts)
unfolding skip aside place root_t on_root zeros_t map_t zeros_f
more_flows l ks ts f c h r = go (flow_of l.site.style) refl
  where
    go : (w : Flow) → flow_of l.site.style ≡ w → map_f row_flow (lay_f (more (node l ks) ts) f c).rows ≡ want_f (more (node l ks) ts)
    go Gone e = rw (lay_f_gone (node l ks) ts f c e, want_more, want_at l ks Gone e, r (past_hidden c), on_zeros (hidden_row c.count) l ks Gone (flow_hidden c.count))
    go Out e = rw (lay_f_out (node l ks) ts f c e, want_more, want_at l ks Out e, r (past_aside c), on_zeros (aside_row (edges_of f).start (line_of f c) (edges_of f).end c.shown.0) l ks Out (flow_aside _ _ _ _))
    go In e = rw (lay_f_in (node l ks) ts f c e, want_more, want_at l ks In e, flow_on (put_at (place_of f c (item_of f l.site.style) (ask_t (node l ks) (question_to f l.site.style)).out) c.shown.0) (put_bits _ _), h, r (stepped f c (item_of f l.site.style) (ask_t (node l ks) (question_to f l.site.style)).out))

one_more : (t : Tree Node) (ts : Forest Node) (f : Frame) (c : Cursor) → map_t row_flow (lay_t t (question_to f (style_t t)) zero_f).rows ≡ in_t t → ((d : Cursor) → map_f row_flow (lay_f ts f d).rows ≡ want_f ts)
    → map_f row_flow (lay_f (more t ts) f c).rows ≡ want_f (more t ts)
unfolding root_t
one_more (node l ks) ts f c h r = more_flows l ks ts f c (ask_flows l ks (question_to f l.site.style) h) r

mutual
  pub flows_t : (t : Tree Node) (q : LayoutInput) (found : Float) → Leafy t → map_t row_flow (lay_t t q found).rows ≡ in_t t
  flows_t (node l ks) q found g = node_flows l ks q found g (λ f c. flows_f ks f c (leaf_kids l ks g))

  flows_f : (ts : Forest Node) (f : Frame) (c : Cursor) → LeafyF ts → map_f row_flow (lay_f ts f c).rows ≡ want_f ts
  flows_f none f c g = ap (λ (s : Stacked). map_f row_flow s.rows) (lay_f_none f c) ∙ map_f_none row_flow ∙ sym want_none
  flows_f (more t ts) f c g = one_more t ts f c (flows_t t (question_to f (style_t t)) zero_f (first_leafy t ts g)) (λ d. flows_f ts f d (rest_leafy t ts g))
