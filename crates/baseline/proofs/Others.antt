-- Baselines move no other row word: a page's rows, but for number 15 and bit 9, are those of the page without bit 16.
use Rattle.std.specs.Prelude.{◌≡◌, refl, Bool, true, false, Float, Option, None, Some}
use Rattle.std.proofs.Common.{sym, ap, ◌∙◌}
use Rattle.geometry.specs.Geometry.{zero_f}
use Rattle.style.specs.Flow.{is_leaf}
use Rattle.tree.specs.Tree.{Tree, Forest, node, none, more, map_t, map_f, on_root}
use Rattle.tree.proofs.Laws.{map_t_node, map_f_none, map_f_more}
use Rattle.steps.specs.Row.{Row, lowered}
use Rattle.steps.specs.Page.{Site, Cell, Node, blank}
use Rattle.steps.specs.Edges.{frame_of}
use Rattle.steps.specs.Stack.{start_of}
use Rattle.steps.specs.Through.{finished, leaf_output}
use Rattle.steps.specs.Probe.{width_pass}
use Rattle.steps.specs.Layout.{Stacked, leaf_laid, block_laid, lower_f, align_f, lay_t, lay_f, relaid, fresh}
use Rattle.steps.specs.declared.LayoutInput.{LayoutInput}
use Rattle.steps.specs.declared.Frame.{Frame}
use Rattle.steps.specs.declared.Cursor.{Cursor}
use Rattle.steps.proofs.Clauses.{lay_t_leaf, lay_t_block, lay_f_none}
use Rattle.steps.proofs.Zeros.{zeros_f_lem}
use Rattle.laws.specs.Trees.{AllT, AllF}
use Rattle.laws.specs.Small.{Small}
use Rattle.laws.specs.Restyled.{on_passed, pass-restyled}
use Rattle.baseline.specs.New.{New, new_root, new_nodes}
use Rattle.baseline.specs.Unlined.{unlined, unsaid, still, unseen, same_frame, same_leaf}
use Rattle.baseline.specs.Others.{unlined_site, unlined_node, LessLaid, LessStack, row_less, zeros_less_f, lower_less, start_less, finish_shift, finish_less, more_less, unlined_blank}

lower_t : (d : Float) (t : Tree Row) → map_t unsaid (on_root (lowered d) t) ≡ on_root (lowered d) (map_t unsaid t)
unfolding map_t on_root
lower_t d (node r ks) = ap (λ (x : Row). node x (map_f unsaid ks)) (lower_less d r)

lower_f_lem : (d : Float) (ts : Forest Row) → map_f unsaid (lower_f d ts) ≡ lower_f d (map_f unsaid ts)
unfolding lower_f map_f
lower_f_lem d none = refl
lower_f_lem d (more t ts) = rw (lower_t d t, lower_f_lem d ts)

align_less : (d : Option Float) (ts : Forest Row) → map_f unsaid (align_f d ts) ≡ align_f d (map_f unsaid ts)
unfolding align_f
align_less None ts = refl
align_less (Some d) ts = lower_f_lem d ts

-- ---- one node
leaf_node : (l : Node) (q : LayoutInput) (ks : Forest Node) → Small l → LessLaid (leaf_laid l q ks) (leaf_laid (unlined_node l) q (map_f unlined_node ks))
unfolding leaf_laid map_t
leaf_node l q ks v =
    let e = same_leaf l.site.style.measure q in
    record {
      same_out = e;
      same_rows = rw (row_less q (leaf_output l.site.style.measure q) l.probe v, zeros_less_f ks, zeros_f_lem unlined_node ks, e);
    }

box_node : (l : Node) (q : LayoutInput) (f : Frame) (a b : Stacked) → Small l → LessStack a b → LessLaid (block_laid l q f a) (block_laid (unlined_node l) q f b)
unfolding block_laid map_t
box_node l q f a b v h =
    let s = l.site.style in
    let e = finish_less s q f a.last ∙ ap (λ (c : Cursor). (finished (unlined s) q f c).output) h.same_last in
    let d = sym (finish_shift s q f a.last) ∙ ap (λ (c : Cursor). (finished (unlined s) q f c).shift) h.same_last in
    record {
      same_out = e;
      same_rows = rw (row_less q (finished s q f a.last).output l.probe v, align_less (finished s q f a.last).shift a.rows, h.same_rows, e, d);
    }

lay_node : (l : Node) (ks : Forest Node) (q : LayoutInput) (found : Float) → New l → ((f : Frame) (c : Cursor) → LessStack (lay_f ks f c) (lay_f (map_f unlined_node ks) f (still c)))
    → LessLaid (lay_t (node l ks) q found) (lay_t (node (unlined_node l) (map_f unlined_node ks)) q found)
lay_node l ks q found n h = go (is_leaf l.site.style.kind) refl
  where
    go : (b : Bool) → is_leaf l.site.style.kind ≡ b → LessLaid (lay_t (node l ks) q found) (lay_t (node (unlined_node l) (map_f unlined_node ks)) q found)
    go true e = rw (lay_t_leaf l ks q found e, lay_t_leaf (unlined_node l) (map_f unlined_node ks) q found e) (leaf_node l q ks n.small)
    go false e =
        let f : Frame = frame_of l.site.style q found in
        rw (lay_t_block l ks q found e, lay_t_block (unlined_node l) (map_f unlined_node ks) q found e, same_frame l.site.style q found)
        (box_node l q f _ _ n.small (rw (start_less f) at (h f (start_of f))))

mutual
  unfolding AllT

  less_t : (t : Tree Node) → AllT New t → (q : LayoutInput) (found : Float) → LessLaid (lay_t t q found) (lay_t (map_t unlined_node t) q found)
  less_t (node l ks) h q found = rw (map_t_node unlined_node l ks) (lay_node l ks q found h.0 (λ f c. less_f ks h.1 f c))

  less_f : (ts : Forest Node) → AllF New ts → (f : Frame) (c : Cursor) → LessStack (lay_f ts f c) (lay_f (map_f unlined_node ts) f (still c))
  less_f none h f c = rw (map_f_none unlined_node, lay_f_none f c, lay_f_none f (still c)) (record { same_last = refl; same_rows = map_f_none unsaid })
  less_f (more t ts) h f c = rw (map_f_more unlined_node t ts) (more_less t ts f c (new_root t h.0) (λ q. less_t t h.0 q zero_f) (λ d. less_f ts h.1 f d))

-- ---- Whatever baselines a page has: its answer without the baseline, and its rows without number 15 and bit 9, are those of the page without bit 16.
pub other_words : (t : Tree Site) (q : LayoutInput) → LessLaid (fresh t q) (fresh (map_t unlined_site t) q)
unfolding fresh relaid
other_words t q =
    let p = width_pass (map_t blank t) q in
    let e : width_pass (map_t blank (map_t unlined_site t)) q ≡ on_passed unlined p = ap (λ (u : Tree Cell). width_pass u q) (unlined_blank t) ∙ pass-restyled unlined unseen (map_t blank t) q in
    rw e (less_t p.nodes (new_nodes t q) q p.found)
