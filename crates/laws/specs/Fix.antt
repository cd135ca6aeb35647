-- Below a kept node: on the rows of a fresh layout of this page, what is fixed is what a layout with the new probe words gives.
use Rattle.std.specs.Prelude.{◌≡◌, refl, Bool, true, false, ℕ, Float, Option}
use Rattle.std.proofs.Common.{sym, ◌∙◌}
use Rattle.std.proofs.Math.Path.{ap}
use Rattle.geometry.specs.Geometry.{zero_f}
use Rattle.geometry.specs.declared.Point.{Point}
use Rattle.style.specs.declared.Style.{Style}
use Rattle.tree.specs.Tree.{Tree, Forest, node, none, more, map_t, map_f, root_t, on_root}
use Rattle.tree.proofs.Laws.{map_t_node, map_f_none, map_f_more, root_t_map, on_root_node}
use Rattle.style.specs.Flow.{is_leaf, flow_of}
use Rattle.steps.specs.Stack.{start_of, question_to, item_of, stepped, line_of, edges_of, past_aside, past_hidden}
use Rattle.steps.specs.Through.{finished}
use Rattle.steps.specs.Row.{Row, ProbeWords, bare, hidden_row, aside_row, laid_row, put_at, probe_of, output_in}
use Rattle.steps.specs.Page.{Site, Node}
use Rattle.steps.specs.Kept.{keep, fix_t, fix_f, zeros_t, zeros_f}
use Rattle.steps.specs.Layout.{lay_t, lay_f, skip, aside, place, align_f}
use Rattle.style.specs.declared.Flow.{Flow}
use Rattle.style.specs.declared.Flow.TheVariants.{Gone, Out, In}
use Rattle.steps.specs.declared.LayoutInput.{LayoutInput}
use Rattle.steps.specs.declared.Frame.{Frame}
use Rattle.steps.specs.declared.Cursor.{Cursor}
use Rattle.steps.proofs.Clauses.{frame_at, lay_f_gone, lay_f_out, lay_f_in, fix_t_at, fix_f_none, fix_f_more, leaf_rows, block_rows, leaf_out, block_out, stack_of, shift_of}
use Rattle.steps.proofs.Zeros.{zeros_f_lem}
use Rattle.laws.specs.Trees.{top_t, kids_t}
use Rattle.laws.specs.Bits.{moved_y, below_row_lem, row_small}
use Rattle.laws.specs.Pages.{now_site, LeavesT, LeavesF}
use Rattle.laws.specs.Along.{Full, old_f, view_n, RowsT, RowsF, ask-view, own_row, down, along-gone, along-out, along-in, next_for, gone-rows, out-rows, in_rows, align_none}

abbrev pub now_f : Full → Style
now_f l = l.both.now

abbrev pub was_f : Full → Style
was_f l = l.both.was

-- the probe words of the old rows, and those of this time
abbrev pub old_words : Full → ProbeWords
old_words l = probe_of l.both.old

abbrev pub new_words : Full → ProbeWords
new_words l = l.probe

abbrev pub again_n : Full → Node
again_n l = record { site = record { node = l.both.node; style = l.both.now; edit = l.both.edit }; old = l.both.old; probe = l.probe; anew = l.anew }

abbrev pub site_f : Full → Site
site_f l = now_site l.both

-- probe words change no answer
abbrev pub seen_n : Full → Node
seen_n = view_n now_f old_words

abbrev pub after_n : Full → Node
after_n = view_n now_f new_words

blind_node : (l : Full) (ks : Forest Full) (q : LayoutInput) (found : Float) → ((f : Frame) (c : Cursor) → (lay_f (map_f seen_n ks) f c).last ≡ (lay_f (map_f after_n ks) f c).last)
    → (lay_t (map_t seen_n (node l ks)) q found).out ≡ (lay_t (map_t after_n (node l ks)) q found).out
blind_node l ks q found h = rw (map_t_node seen_n l ks, map_t_node after_n l ks) (go (is_leaf (now_f l).kind) refl)
  where
    go : (b : Bool) → is_leaf (now_f l).kind ≡ b → (lay_t (node (seen_n l) (map_f seen_n ks)) q found).out ≡ (lay_t (node (after_n l) (map_f after_n ks)) q found).out
    go true e = leaf_out (seen_n l) _ q found e ∙ sym (leaf_out (after_n l) _ q found e)
    go false e =
        block_out (seen_n l) _ q found e ∙ ap (λ (c : Cursor). (finished (now_f l) q (frame_at (seen_n l) q found) c).output) (h (frame_at (seen_n l) q found) (start_of (frame_at (seen_n l) q found)))
        ∙ sym (block_out (after_n l) _ q found e)

-- where siblings end
module _ (pr : Full → ProbeWords) where
  gone-end : (t : Tree Full) (ts : Forest Full) (f : Frame) (c : Cursor) → flow_of (now_f (root_t t)) ≡ Gone → (lay_f (map_f (view_n now_f pr) (more t ts)) f c).last ≡ (lay_f (map_f (view_n now_f pr) ts) f (past_hidden c)).last
  unfolding skip
  gone-end t ts f c e = rw (map_f_more (view_n now_f pr) t ts, lay_f_gone (map_t (view_n now_f pr) t) (map_f (view_n now_f pr) ts) f c (ap (λ (n : Node). flow_of n.site.style) (root_t_map (view_n now_f pr) t) ∙ e))

  out-end : (t : Tree Full) (ts : Forest Full) (f : Frame) (c : Cursor) → flow_of (now_f (root_t t)) ≡ Out → (lay_f (map_f (view_n now_f pr) (more t ts)) f c).last ≡ (lay_f (map_f (view_n now_f pr) ts) f (past_aside c)).last
  unfolding aside
  out-end t ts f c e = rw (map_f_more (view_n now_f pr) t ts, lay_f_out (map_t (view_n now_f pr) t) (map_f (view_n now_f pr) ts) f c (ap (λ (n : Node). flow_of n.site.style) (root_t_map (view_n now_f pr) t) ∙ e))

  in_end : (t : Tree Full) (ts : Forest Full) (f : Frame) (c : Cursor) → flow_of (now_f (root_t t)) ≡ In → (lay_f (map_f (view_n now_f pr) (more t ts)) f c).last ≡ (lay_f (map_f (view_n now_f pr) ts) f (next_for now_f pr t f c)).last
  unfolding place
  in_end t ts f c e =
      rw (map_f_more (view_n now_f pr) t ts, lay_f_in (map_t (view_n now_f pr) t) (map_f (view_n now_f pr) ts) f c (ap (λ (n : Node). flow_of n.site.style) (root_t_map (view_n now_f pr) t) ∙ e), ap (λ (n : Node). n.site.style) (root_t_map (view_n now_f pr) t), ask-view now_f pr t (question_to f (now_f (root_t t))))

same_next : (t : Tree Full) (f : Frame) (c : Cursor) → ((q : LayoutInput) (found : Float) → (lay_t (map_t seen_n t) q found).out ≡ (lay_t (map_t after_n t) q found).out) → next_for now_f old_words t f c ≡ next_for now_f new_words t f c
same_next t f c h = ap (stepped f c (item_of f (now_f (root_t t)))) (h (question_to f (now_f (root_t t))) zero_f)

blind_more : (t : Tree Full) (ts : Forest Full) (f : Frame) (c : Cursor) → ((q : LayoutInput) (found : Float) → (lay_t (map_t seen_n t) q found).out ≡ (lay_t (map_t after_n t) q found).out)
    → ((d : Cursor) → (lay_f (map_f seen_n ts) f d).last ≡ (lay_f (map_f after_n ts) f d).last) → (lay_f (map_f seen_n (more t ts)) f c).last ≡ (lay_f (map_f after_n (more t ts)) f c).last
blind_more t ts f c h r = go (flow_of (now_f (root_t t))) refl
  where
    go : (w : Flow) → flow_of (now_f (root_t t)) ≡ w → (lay_f (map_f seen_n (more t ts)) f c).last ≡ (lay_f (map_f after_n (more t ts)) f c).last
    go Gone e = gone-end old_words t ts f c e ∙ r (past_hidden c) ∙ sym (gone-end new_words t ts f c e)
    go Out e = out-end old_words t ts f c e ∙ r (past_aside c) ∙ sym (out-end new_words t ts f c e)
    go In e = in_end old_words t ts f c e ∙ r (next_for now_f old_words t f c) ∙ ap (λ (d : Cursor). (lay_f (map_f after_n ts) f d).last) (same_next t f c h) ∙ sym (in_end new_words t ts f c e)

mutual
  pub blind_t : (t : Tree Full) (q : LayoutInput) (found : Float) → (lay_t (map_t seen_n t) q found).out ≡ (lay_t (map_t after_n t) q found).out
  blind_t (node l ks) q found = blind_node l ks q found (λ f c. blind_f ks f c)

  pub blind_f : (ts : Forest Full) (f : Frame) (c : Cursor) → (lay_f (map_f seen_n ts) f c).last ≡ (lay_f (map_f after_n ts) f c).last
  blind_f none f c = rw (map_f_none seen_n, map_f_none after_n)
  blind_f (more t ts) f c = blind_more t ts f c (λ q found. blind_t t q found) (λ d. blind_f ts f d)

-- a leaf has no child to fix
no_kids : (ks : Forest Full) → map_f site_f ks ≡ none → ks ≡ none
unfolding map_f
no_kids none e = refl
no_kids (more t ts) e = cc

fixed_none : fix_f (map_f again_n none) ≡ zeros_f {A = Full} none
unfolding zeros_f map_f
fixed_none = fix_f_none

-- fixed is what is laid out: the children of a node, a node, its siblings
abbrev pub FixedF : Forest Full → Option Float → Frame → Cursor → Type 0
FixedF ts d f c = fix_f (map_f again_n ts) ≡ align_f d (lay_f (map_f after_n ts) f c).rows

pub kids_fixed : (l : Full) (ks : Forest Full) (q : LayoutInput) (found : Float) (p : Point Float) (n : ℕ) → RowsT now_f old_words (node l ks) q found p n → LeavesT (map_t site_f (node l ks))
    → ((d : Option Float) (f : Frame) (c : Cursor) → RowsF now_f old_words ks d f c → FixedF ks d f c) → fix_f (map_f again_n ks) ≡ kids_t (lay_t (node (after_n l) (map_f after_n ks)) q found).rows
unfolding LeavesT map_t
kids_fixed l ks q found p n e v h = go (is_leaf (now_f l).kind) refl
  where
    go : (b : Bool) → is_leaf (now_f l).kind ≡ b → fix_f (map_f again_n ks) ≡ kids_t (lay_t (node (after_n l) (map_f after_n ks)) q found).rows
    go true b = rw (leaf_rows (after_n l) (map_f after_n ks) q found b, zeros_f_lem after_n ks, no_kids ks (v.0 b)) fixed_none
    go false b =
        h _ _ _ (down now_f old_words l ks q found p n e b)
        ∙ ap (λ (c : Cursor). align_f (shift_of (after_n l) q found c) (stack_of (after_n l) (map_f after_n ks) q found).rows) (blind_f ks (frame_at (seen_n l) q found) (start_of (frame_at (seen_n l) q found)))
        ∙ sym (ap kids_t (block_rows (after_n l) (map_f after_n ks) q found b))

pub root_after : (l : Full) (ks : Forest Full) (q : LayoutInput) (found : Float) → (lay_t (map_t after_n (node l ks)) q found).rows ≡ node (laid_row q (lay_t (map_t seen_n (node l ks)) q found).out l.probe) (kids_t (lay_t (node (after_n l) (map_f after_n ks)) q found).rows)
root_after l ks q found = rw (blind_t (node l ks) q found, map_t_node after_n l ks) (go (is_leaf (now_f l).kind) refl)
  where
    go : (b : Bool) → is_leaf (now_f l).kind ≡ b
        → (lay_t (node (after_n l) (map_f after_n ks)) q found).rows ≡ node (laid_row q (lay_t (node (after_n l) (map_f after_n ks)) q found).out l.probe) (kids_t (lay_t (node (after_n l) (map_f after_n ks)) q found).rows)
    go true e = leaf_rows (after_n l) (map_f after_n ks) q found e ∙ ap (λ (us : Forest Row). node (laid_row q (lay_t (node (after_n l) (map_f after_n ks)) q found).out l.probe) us) (sym (ap kids_t (leaf_rows (after_n l) (map_f after_n ks) q found e)))
    go false e = block_rows (after_n l) (map_f after_n ks) q found e ∙ ap (λ (us : Forest Row). node (laid_row q (lay_t (node (after_n l) (map_f after_n ks)) q found).out l.probe) us) (sym (ap kids_t (block_rows (after_n l) (map_f after_n ks) q found e)))

pub fix_node : (l : Full) (ks : Forest Full) (q : LayoutInput) (found : Float) (p : Point Float) (n : ℕ) → RowsT now_f old_words (node l ks) q found p n → flow_of (now_f l) ≡ In
    → fix_f (map_f again_n ks) ≡ kids_t (lay_t (node (after_n l) (map_f after_n ks)) q found).rows → fix_t (map_t again_n (node l ks)) ≡ on_root (put_at p n) (lay_t (map_t after_n (node l ks)) q found).rows
fix_node l ks q found p n e w h =
    ap fix_t (map_t_node again_n l ks) ∙ fix_t_at (again_n l) (map_f again_n ks) In w
    ∙ ap (λ (r : Row). node r (fix_f (map_f again_n ks))) (below_row_lem (again_n l) (old_words l) q _ p n (own_row now_f old_words l ks q found p n e) (row_small l.both.old))
    ∙ ap (node (put_at p n (laid_row q (lay_t (map_t seen_n (node l ks)) q found).out l.probe))) h ∙ sym (ap (on_root (put_at p n)) (root_after l ks q found) ∙ on_root_node (put_at p n) _ _)

-- a hidden child and one out of flow keep their rows
hidden_again : (n : ℕ) (l : Full) (ks : Forest Full) → node (hidden_row (hidden_row n).order) (zeros_f ks) ≡ on_root (λ _. hidden_row n) (zeros_t (node l ks))
unfolding hidden_row bare on_root zeros_t zeros_f map_t
hidden_again n l ks = refl

aside_again : (a b c : Float) (n : ℕ) (l : Full) (ks : Forest Full)
    → node (aside_row (aside_row a b c n).place.x (aside_row a b c n).place.y (aside_row a b c n).answer.size.width (aside_row a b c n).order) (zeros_f ks) ≡ on_root (λ _. aside_row a b c n) (zeros_t (node l ks))
unfolding aside_row bare on_root zeros_t zeros_f map_t
aside_again a b c n l ks = refl

top_zeros : (l : Full) (ks : Forest Full) (r : Row) → map_t old_f (node l ks) ≡ on_root (λ _. r) (zeros_t (node l ks)) → l.both.old ≡ r
unfolding on_root zeros_t map_t
top_zeros l ks r e = ap top_t e

fix_gone : (t : Tree Full) (n : ℕ) → flow_of (now_f (root_t t)) ≡ Gone → map_t old_f t ≡ on_root (λ _. hidden_row n) (zeros_t t) → fix_t (map_t again_n t) ≡ on_root (λ _. hidden_row n) (zeros_t t)
unfolding root_t
fix_gone (node l ks) n w e =
    ap fix_t (map_t_node again_n l ks) ∙ fix_t_at (again_n l) (map_f again_n ks) Gone w
    ∙ ap (λ (us : Forest Row). node (hidden_row l.both.old.order) us) (zeros_f_lem again_n ks)
    ∙ ap (λ (r : Row). node (hidden_row r.order) (zeros_f ks)) (top_zeros l ks (hidden_row n) e) ∙ hidden_again n l ks

fix_out : (t : Tree Full) (a b c : Float) (n : ℕ) → flow_of (now_f (root_t t)) ≡ Out → map_t old_f t ≡ on_root (λ _. aside_row a b c n) (zeros_t t) → fix_t (map_t again_n t) ≡ on_root (λ _. aside_row a b c n) (zeros_t t)
unfolding root_t
fix_out (node l ks) a b c n w e =
    ap fix_t (map_t_node again_n l ks) ∙ fix_t_at (again_n l) (map_f again_n ks) Out w
    ∙ ap (λ (us : Forest Row). node (aside_row l.both.old.place.x l.both.old.place.y l.both.old.answer.size.width l.both.old.order) us) (zeros_f_lem again_n ks)
    ∙ ap (λ (r : Row). node (aside_row r.place.x r.place.y r.answer.size.width r.order) (zeros_f ks)) (top_zeros l ks (aside_row a b c n) e) ∙ aside_again a b c n l ks

pub fixed_nothing : (d : Option Float) (f : Frame) (c : Cursor) → FixedF none d f c
unfolding map_f lay_f
fixed_nothing d f c = fix_f_none ∙ sym (align_none d)

pub leaves_kids : (l : Full) (ks : Forest Full) → LeavesT (map_t site_f (node l ks)) → LeavesF (map_f site_f ks)
unfolding LeavesT map_t
leaves_kids l ks h = h.1

pub keep_out : (l : Node) (ks : Forest Node) → (keep (node l ks)).out ≡ output_in l.old
unfolding keep
keep_out l ks = refl

pub fix_more : (t : Tree Full) (ts : Forest Full) (d : Option Float) (f : Frame) (c : Cursor) → RowsF now_f old_words (more t ts) d f c
    → ((q : LayoutInput) (p : Point Float) (n : ℕ) → RowsT now_f old_words t q zero_f p n → flow_of (now_f (root_t t)) ≡ In → fix_t (map_t again_n t) ≡ on_root (put_at p n) (lay_t (map_t after_n t) q zero_f).rows)
    → ((e : Cursor) → RowsF now_f old_words ts d f e → FixedF ts d f e) → FixedF (more t ts) d f c
fix_more t ts d f c e ht hts = ap fix_f (map_f_more again_n t ts) ∙ fix_f_more _ _ ∙ go (flow_of (now_f (root_t t))) refl
  where
    go : (w : Flow) → flow_of (now_f (root_t t)) ≡ w → more (fix_t (map_t again_n t)) (fix_f (map_f again_n ts)) ≡ align_f d (lay_f (map_f after_n (more t ts)) f c).rows
    go Gone w =
        let h = along-gone now_f old_words t ts d f c e w in
        rw (fix_gone t c.count w h.rows, hts (past_hidden c) h.rest) (sym (gone-rows now_f new_words t ts d f c w))
    go Out w =
        let h = along-out now_f old_words t ts d f c e w in
        rw (fix_out t (edges_of f).start (moved_y d (line_of f c)) (edges_of f).end c.shown.0 w h.rows, hts (past_aside c) h.rest) (sym (out-rows now_f new_words t ts d f c w))
    go In w =
        let h = along-in now_f old_words t ts d f c e w in
        let q = question_to f (now_f (root_t t)) in
        let o : (lay_t (map_t seen_n t) q zero_f).out ≡ (lay_t (map_t after_n t) q zero_f).out = blind_t t q zero_f in
        rw (ht q _ _ h.rows w, hts (next_for now_f old_words t f c) h.rest, o) (sym (in_rows now_f new_words t ts d f c w))
