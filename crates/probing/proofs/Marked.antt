-- The mark that the width pass leaves in memory is the definition's veto: the final pass on what memory holds is the final pass of the definition.
--     CodesT, CodesF        nodes whose probe codes are below 16
--     marked_t, marked_f    on such nodes the two passes are the same
use mathlib.Core.Path.{◌≡◌, refl, sym, ap, ◌∙◌}
use mathlib.Core.Bool.{Bool, true, false, cond, not, ◌&&◌}
use Prim.Native.Nat.{◌<◌}
use lib.Ieee.{Float}
use Rattle.geometry.specs.Geometry.{zero_f}
use Rattle.tree.specs.Tree.{Tree, Forest, node, none, more, map_t, map_f, root_t}
use Rattle.tree.proofs.Laws.{map_t_node, map_f_none, map_f_more, root_t_node, root_t_map}
use Rattle.style.specs.Flow.{is_leaf, flow_of}
use Rattle.steps.specs.Edges.{frame_of}
use Rattle.steps.specs.Stack.{start_of, question_to, past_aside, past_hidden}
use Rattle.steps.specs.Row.{Row, ProbeWords, noted, with_code, probe_of, is_laid, output_in, hidden_row, aside_row}
use Rattle.steps.specs.Page.{Node, any_t, staying}
use Rattle.steps.specs.Kept.{final_stands, edited_node, kept, keep, kept_row, laid_bits, below_row, fix_t, fix_f}
use Rattle.steps.specs.Layout.{Stacked, leaf_laid, block_laid, lay_t, lay_f, ask_t, skip, aside, place}
use Rattle.style.specs.declared.Flow.{Flow}
use Rattle.style.specs.declared.Flow.TheVariants.{Gone, Out, In}
use Rattle.steps.specs.declared.LayoutInput.{LayoutInput}
use Rattle.steps.specs.declared.Frame.{Frame}
use Rattle.steps.specs.declared.Cursor.{Cursor}
use Rattle.steps.proofs.Clauses.{style_t, lay_t_leaf, lay_t_block, lay_f_gone, lay_f_out, lay_f_in, ask_t_kept, ask_t_new, fix_f_more, fix_t_gone, fix_t_out, fix_t_in, any_map_t}
use Rattle.steps.proofs.Zeros.{zeros_t_lem, zeros_f_lem}
use Rattle.rows.specs.Store.{unlaid}
use Rattle.probing.specs.Passed.{passed_row, marked_cell}
use Rattle.probing.proofs.ProbeBits.{code_back, flag_0, flag_1, flag_3, flag_8, flag_9, flag_gone, bits_below}
use Rattle.probing.proofs.PassedRows.{same_note}

-- what the final pass takes a node for
abbrev pub marked : Node → Node
marked l = staying (marked_cell l)

-- probe codes are below 16
unfoldable mutual
  pub CodesT : Tree Node → Type 0
  CodesT (node l ks) = (l.probe.code < 16) × CodesF ks

  pub CodesF : Forest Node → Type 0
  CodesF none = Unit {0}
  CodesF (more t ts) = CodesT t × CodesF ts

-- one row
pub probe_back : (l : Node) → l.probe.code < 16 → probe_of (passed_row l) ≡ l.probe
unfolding probe_of passed_row noted
probe_back l h = rw (code_back (cond l.anew (unlaid l.old.bits) l.old.bits) l.probe.code h)

stands_by : (q : LayoutInput) (r : Row) (p : ProbeWords) (v : Bool) → p.code < 16 → final_stands q (noted r p (with_code (cond v (unlaid r.bits) r.bits) p.code)) ≡ (not v && final_stands q r)
unfolding final_stands noted is_laid
stands_by q r p true h = rw (flag_gone r.bits p.code)
stands_by q r p false h = rw (flag_0 r.bits p.code, flag_3 r.bits p.code, flag_8 r.bits p.code h)

-- the mark is the veto
pub stands_marked : (q : LayoutInput) (l : Node) → l.probe.code < 16 → (not (marked l).anew && final_stands q (marked l).old) ≡ (not l.anew && final_stands q l.old)
unfolding staying marked_cell passed_row
stands_marked q l h = stands_by q l.old l.probe l.anew h

kept_by : (r : Row) (p : ProbeWords) (v : Bool) → v ≡ false → noted r p (with_code (cond v (unlaid r.bits) r.bits) p.code) ≡ noted r p (with_code r.bits p.code)
kept_by r p v e = ap (λ (b : Bool). noted r p (with_code (cond b (unlaid r.bits) r.bits) p.code)) e

passed_kept : (l : Node) → l.anew ≡ false → passed_row l ≡ kept_row l
unfolding passed_row kept_row
passed_kept l e = kept_by l.old l.probe l.anew e

kept_passed : (l : Node) → kept_row (marked l) ≡ passed_row l
unfolding kept_row staying marked_cell probe_of
kept_passed l = same_note (passed_row l)

kept_marked : (l : Node) → l.anew ≡ false → kept_row (marked l) ≡ kept_row l
kept_marked l e = kept_passed l ∙ passed_kept l e

out_by : (r : Row) (p : ProbeWords) (v : Bool) → p.code < 16 → v ≡ false → output_in (noted r p (with_code (cond v (unlaid r.bits) r.bits) p.code)) ≡ output_in r
unfolding output_in noted
out_by r p v h e = rw (e, flag_1 r.bits p.code, flag_9 r.bits p.code h)

out_marked : (l : Node) → l.probe.code < 16 → l.anew ≡ false → output_in (marked l).old ≡ output_in l.old
unfolding staying marked_cell passed_row
out_marked l h e = out_by l.old l.probe l.anew h e

below_by : (r : Row) (p : ProbeWords) (v : Bool) → p.code < 16
    → noted (noted r p (with_code (cond v (unlaid r.bits) r.bits) p.code)) p (laid_bits (with_code (cond v (unlaid r.bits) r.bits) p.code) p.code) ≡ noted r p (laid_bits r.bits p.code)
unfolding noted
below_by r p v h = rw (bits_below r.bits p.code v h)

below_passed : (l : Node) → l.probe.code < 16 → noted (passed_row l) l.probe (laid_bits (passed_row l).bits l.probe.code) ≡ noted l.old l.probe (laid_bits l.old.bits l.probe.code)
unfolding passed_row noted
below_passed l h = below_by l.old l.probe l.anew h

below_marked : (l : Node) → l.probe.code < 16 → below_row (marked l) ≡ below_row l
unfolding below_row staying marked_cell
below_marked l h = ap (λ (p : ProbeWords). noted (passed_row l) p (laid_bits (passed_row l).bits p.code)) (probe_back l h) ∙ below_passed l h

hidden_marked : (l : Node) → hidden_row (marked l).old.order ≡ hidden_row l.old.order
unfolding staying marked_cell passed_row noted
hidden_marked l = refl

aside_marked : (l : Node) → aside_row (marked l).old.place.x (marked l).old.place.y (marked l).old.answer.size.width (marked l).old.order ≡ aside_row l.old.place.x l.old.place.y l.old.answer.size.width l.old.order
unfolding staying marked_cell passed_row noted
aside_marked l = refl

site_marked : (l : Node) → (marked l).site ≡ l.site
unfolding staying marked_cell
site_marked l = refl

-- edits
any_marked : (t : Tree Node) → any_t edited_node (map_t marked t) ≡ any_t edited_node t
unfolding edited_node staying marked_cell
any_marked t = any_map_t edited_node marked t

-- below a kept node
fix_node : (l : Node) (ks : Forest Node) (w : Flow) → flow_of l.site.style ≡ w → l.probe.code < 16 → fix_f (map_f marked ks) ≡ fix_f ks → fix_t (map_t marked (node l ks)) ≡ fix_t (node l ks)
fix_node l ks Gone e h i =
    ap fix_t (map_t_node marked l ks) ∙ fix_t_gone (marked l) (map_f marked ks) (ap (λ s. flow_of s.style) (site_marked l) ∙ e) ∙ rw (hidden_marked l, zeros_f_lem marked ks) (sym (fix_t_gone l ks e))
fix_node l ks Out e h i =
    ap fix_t (map_t_node marked l ks) ∙ fix_t_out (marked l) (map_f marked ks) (ap (λ s. flow_of s.style) (site_marked l) ∙ e) ∙ rw (aside_marked l, zeros_f_lem marked ks) (sym (fix_t_out l ks e))
fix_node l ks In e h i =
    ap fix_t (map_t_node marked l ks) ∙ fix_t_in (marked l) (map_f marked ks) (ap (λ s. flow_of s.style) (site_marked l) ∙ e) ∙ rw (below_marked l h, i) (sym (fix_t_in l ks e))

mutual
  unfolding CodesT

  fix_t_lem : (t : Tree Node) → CodesT t → fix_t (map_t marked t) ≡ fix_t t
  fix_t_lem (node l ks) h = fix_node l ks (flow_of l.site.style) refl h.0 (fix_f_lem ks h.1)

  fix_f_lem : (ts : Forest Node) → CodesF ts → fix_f (map_f marked ts) ≡ fix_f ts
  fix_f_lem none h = rw (map_f_none marked)
  fix_f_lem (more t ts) h = rw (map_f_more marked t ts, fix_f_more, fix_f_more, fix_t_lem t h.0, fix_f_lem ts h.1)

-- what is kept, and that it is as it was
kept_node : (l : Node) (ks : Forest Node) (q : LayoutInput) → l.probe.code < 16 → kept (map_t marked (node l ks)) q ≡ kept (node l ks) q
unfolding kept
kept_node l ks q h =
    let r : root_t (map_t marked (node l ks)) ≡ marked l = root_t_map marked (node l ks) ∙ ap marked (root_t_node l ks) in
    rw (any_marked (node l ks), r, root_t_node l ks) (ap (λ (b : Bool). not (any_t edited_node (node l ks)) && b) (stands_marked q l h))

not_anew : (a b c : Bool) → (not a && (not b && c)) ≡ true → b ≡ false
not_anew a false c e = refl
not_anew true true c e = sym e
not_anew false true c e = sym e

kept_new : (l : Node) (ks : Forest Node) (q : LayoutInput) → kept (node l ks) q ≡ true → l.anew ≡ false
unfolding kept root_t
kept_new l ks q e = not_anew (any_t edited_node (node l ks)) l.anew (final_stands q l.old) e

keep_marked : (l : Node) (ks : Forest Node) → l.probe.code < 16 → l.anew ≡ false → fix_f (map_f marked ks) ≡ fix_f ks → keep (map_t marked (node l ks)) ≡ keep (node l ks)
unfolding keep
keep_marked l ks h e i = rw (map_t_node marked l ks, out_marked l h e, kept_marked l e, i)

ask_node : (l : Node) (ks : Forest Node) (q : LayoutInput) (b : Bool) → l.probe.code < 16 → kept (node l ks) q ≡ b → fix_f (map_f marked ks) ≡ fix_f ks → lay_t (map_t marked (node l ks)) q zero_f ≡ lay_t (node l ks) q zero_f
    → ask_t (map_t marked (node l ks)) q ≡ ask_t (node l ks) q
ask_node l ks q true s e i h = ask_t_kept (map_t marked (node l ks)) q (kept_node l ks q s ∙ e) ∙ keep_marked l ks s (kept_new l ks q e) i ∙ sym (ask_t_kept (node l ks) q e)
ask_node l ks q false s e i h = ask_t_new (map_t marked (node l ks)) q (kept_node l ks q s ∙ e) ∙ h ∙ sym (ask_t_new (node l ks) q e)

ask_of : (t : Tree Node) → CodesT t → (q : LayoutInput) → lay_t (map_t marked t) q zero_f ≡ lay_t t q zero_f → ask_t (map_t marked t) q ≡ ask_t t q
unfolding CodesT
ask_of (node l ks) h q i = ask_node l ks q (kept (node l ks) q) h.0 refl (fix_f_lem ks h.1) i

-- one node, and one child of the stack
leaf_marked : (l : Node) (ks : Forest Node) (q : LayoutInput) → l.probe.code < 16 → leaf_laid (marked l) q (map_f marked ks) ≡ leaf_laid l q ks
unfolding leaf_laid staying marked_cell
leaf_marked l ks q h = rw (probe_back l h, zeros_f_lem marked ks)

block_marked : (l : Node) (q : LayoutInput) (f : Frame) (s : Stacked) → l.probe.code < 16 → block_laid (marked l) q f s ≡ block_laid l q f s
unfolding block_laid staying marked_cell
block_marked l q f s h = rw (probe_back l h)

lay_node : (l : Node) (ks : Forest Node) (q : LayoutInput) (w : Float) (b : Bool) → is_leaf l.site.style.kind ≡ b → l.probe.code < 16 → ((f : Frame) (c : Cursor) → lay_f (map_f marked ks) f c ≡ lay_f ks f c)
    → lay_t (map_t marked (node l ks)) q w ≡ lay_t (node l ks) q w
lay_node l ks q w true e h i =
    ap (λ t. lay_t t q w) (map_t_node marked l ks) ∙ lay_t_leaf (marked l) (map_f marked ks) q w (ap (λ s. is_leaf s.style.kind) (site_marked l) ∙ e) ∙ leaf_marked l ks q h ∙ sym (lay_t_leaf l ks q w e)
lay_node l ks q w false e h i =
    let f : Frame = frame_of l.site.style q w in
    ap (λ t. lay_t t q w) (map_t_node marked l ks) ∙ lay_t_block (marked l) (map_f marked ks) q w (ap (λ s. is_leaf s.style.kind) (site_marked l) ∙ e)
    ∙ ap (λ s. block_laid (marked l) q (frame_of s.style q w) (lay_f (map_f marked ks) (frame_of s.style q w) (start_of (frame_of s.style q w)))) (site_marked l)
    ∙ ap (block_laid (marked l) q f) (i f (start_of f)) ∙ block_marked l q f (lay_f ks f (start_of f)) h ∙ sym (lay_t_block l ks q w e)

root_style : (t : Tree Node) → (root_t (map_t marked t)).site.style ≡ (root_t t).site.style
root_style t = ap (λ l. l.site.style) (root_t_map marked t) ∙ ap (λ s. s.style) (site_marked (root_t t))

more_at : (t : Tree Node) (ts : Forest Node) (f : Frame) (c : Cursor) (w : Flow) → flow_of (style_t t) ≡ w → ((q : LayoutInput) → ask_t (map_t marked t) q ≡ ask_t t q)
    → ((d : Cursor) → lay_f (map_f marked ts) f d ≡ lay_f ts f d) → lay_f (more (map_t marked t) (map_f marked ts)) f c ≡ lay_f (more t ts) f c
unfolding skip aside place
more_at t ts f c Gone e h k =
    lay_f_gone (map_t marked t) (map_f marked ts) f c (ap flow_of (root_style t) ∙ e) ∙ rw (zeros_t_lem marked t, k (past_hidden c)) (sym (lay_f_gone t ts f c e))
more_at t ts f c Out e h k =
    lay_f_out (map_t marked t) (map_f marked ts) f c (ap flow_of (root_style t) ∙ e) ∙ rw (zeros_t_lem marked t, k (past_aside c)) (sym (lay_f_out t ts f c e))
more_at t ts f c In e h k =
    lay_f_in (map_t marked t) (map_f marked ts) f c (ap flow_of (root_style t) ∙ e) ∙ rw (root_style t, h (question_to f (style_t t)), k _) (sym (lay_f_in t ts f c e))

more_of : (t : Tree Node) (ts : Forest Node) (f : Frame) (c : Cursor) → ((q : LayoutInput) → ask_t (map_t marked t) q ≡ ask_t t q) → ((d : Cursor) → lay_f (map_f marked ts) f d ≡ lay_f ts f d)
    → lay_f (map_f marked (more t ts)) f c ≡ lay_f (more t ts) f c
more_of t ts f c h k = rw (map_f_more marked t ts) (more_at t ts f c (flow_of (style_t t)) refl h k)

mutual
  unfolding CodesT

  pub marked_t : (t : Tree Node) → CodesT t → (q : LayoutInput) (w : Float) → lay_t (map_t marked t) q w ≡ lay_t t q w
  marked_t (node l ks) h q w = lay_node l ks q w (is_leaf l.site.style.kind) refl h.0 (λ f c. marked_f ks h.1 f c)

  pub marked_f : (ts : Forest Node) → CodesF ts → (f : Frame) (c : Cursor) → lay_f (map_f marked ts) f c ≡ lay_f ts f c
  marked_f none h f c = rw (map_f_none marked)
  marked_f (more t ts) h f c = more_of t ts f c (λ q. ask_of t h.0 q (marked_t t h.0 q zero_f)) (λ d. marked_f ts h.1 f d)
