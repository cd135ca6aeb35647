-- The width pass reads no style below a node that the final pass keeps.
use Rattle.std.specs.Prelude.{◌≡◌, refl, Bool, true, false, Float, Option, None}
use Rattle.std.proofs.Common.{sym, ap, ◌∙◌}
use Rattle.geometry.specs.Geometry.{zero_f}
use Rattle.util.specs.Math.{larger}
use Rattle.length.specs.declared.AvailableSpace.{AvailableSpace}
use Rattle.style.specs.declared.Style.{Style}
use Rattle.tree.specs.Tree.{Tree, Forest, node, none, more, map_t, map_f, root_t}
use Rattle.tree.proofs.Laws.{map_t_node, map_f_more}
use Rattle.style.specs.Flow.{is_leaf}
use Rattle.steps.specs.Width.{want_of, outer_width}
use Rattle.steps.specs.Sizing.{step_a, known_of}
use Rattle.steps.specs.Page.{Cell, Node}
use Rattle.steps.specs.Probe.{Probed, Widest, answered, probe_t, probe_f, probe_known, space_in, widen, width_pass, ask_p}
use Rattle.steps.specs.declared.Want.{Want}
use Rattle.steps.specs.declared.Want.TheVariants.{Nothing, Outer}
use Rattle.steps.specs.declared.Want.TheVariants as want
use Rattle.steps.specs.declared.ProbeInput.{ProbeInput}
use Rattle.steps.specs.declared.LayoutInput.{LayoutInput}
use Rattle.steps.specs.declared.Frame.{Frame}
use Rattle.steps.proofs.Clauses.{style_c, ask_p_stands, ask_p_anew, probe_t_leaf, probe_t_block, probe_f_at}
use Rattle.laws.specs.Trees.{AllT, AllF, top_t, kids_t, first_f, rest_f}
use Rattle.laws.specs.Below.{Two, page1, page2, below_of, Agree, below_t, below_f, below_kept}
use Rattle.laws.specs.Marks.{marks_of, below_top}
use Rattle.laws.proofs.Marks.{marks_top}
use Rattle.laws.specs.Unread.{AlikeP, AlikeW, alike_w, cleared_t, cleared_f, answered_same, stay_same, same_cell, anew_marks, asked_same, box_same, box_below, widen_same, widen_below, top_agree, top_below, same_style, none_same, AlikeG, page_same, page_leaf, page_block, shape, then_same}

node_same : (l : Two) (ks : Forest Two) (q : ProbeInput) (g : LayoutInput) (found : Float) → Agree l → map_t below_of (node l ks) ≡ below_t (probe_t (map_t page1 (node l ks)) q).nodes g found
    → ((a : AvailableSpace) (m : Float) (f : Frame) → map_f below_of ks ≡ below_f (probe_f (map_f page1 ks) a m).nodes f → AlikeW (probe_f (map_f page1 ks) a m) (probe_f (map_f page2 ks) a m))
    → AlikeP (probe_t (map_t page1 (node l ks)) q) (probe_t (map_t page2 (node l ks)) q)
node_same l ks q g found h e r = rw (map_t_node page1 l ks, map_t_node page2 l ks, ← same_cell l h top) (go (is_leaf l.one.kind) refl)
  where
    e1 : node l.below (map_f below_of ks) ≡ below_t (probe_t (node (page1 l) (map_f page1 ks)) q).nodes g found
    e1 = sym (map_t_node below_of l ks) ∙ e ∙ ap (λ (t : Tree Cell). below_t (probe_t t q).nodes g found) (map_t_node page1 l ks)

    top : l.below ≡ false
    top = ap top_t e1 ∙ below_top _ g found

    go : (b : Bool) → is_leaf l.one.kind ≡ b → AlikeP (probe_t (node (page1 l) (map_f page1 ks)) q) (probe_t (node (page1 l) (map_f page2 ks)) q)
    go true b = rw (probe_t_leaf (page1 l) (map_f page1 ks) q b, probe_t_leaf (page1 l) (map_f page2 ks) q b) (asked_same (page1 l) q _ _ _ _ refl (cleared_f ks))
    go false b =
        rw (probe_t_block (page1 l) (map_f page1 ks) q b, probe_t_block (page1 l) (map_f page2 ks) q b)
        (box_same (page1 l) q ks (probe_known l.one q).width _ _
        (λ p. r _ zero_f _ (ap kids_t e1 ∙ ap (λ (x : Probed). kids_t (below_t x.nodes g found)) (probe_t_block (page1 l) (map_f page1 ks) q b) ∙ box_below (page1 l) q (map_f page1 ks) (probe_known l.one q).width _ g found b p)))

module _ (t : Tree Two) (ts : Forest Two) (a : AvailableSpace) (m : Float) (f : Frame) (agree : Agree (root_t t)) (e : map_f below_of (more t ts) ≡ below_f (probe_f (map_f page1 (more t ts)) a m).nodes f) where
  -- the marks of the child and of the rest, once it is known what the child's nodes are
  split : (k : Float) (u : Tree Node) → probe_f (more (map_t page1 t) (map_f page1 ts)) a m ≡ widen k u (probe_f (map_f page1 ts) a)
      → more (map_t below_of t) (map_f below_of ts) ≡ more (marks_of u f) (below_f (probe_f (map_f page1 ts) a k).nodes f)
  split k u p =
      sym (map_f_more below_of t ts) ∙ e ∙ ap (λ (us : Forest Cell). below_f (probe_f us a m).nodes f) (map_f_more page1 t ts)
      ∙ ap (λ (w : Widest). below_f w.nodes f) p ∙ widen_below k u (probe_f (map_f page1 ts) a) f

  child-marks : (k : Float) (u : Tree Node) → probe_f (more (map_t page1 t) (map_f page1 ts)) a m ≡ widen k u (probe_f (map_f page1 ts) a) → map_t below_of t ≡ marks_of u f
  child-marks k u p = ap (first_f (map_t below_of t)) (split k u p)

  rest-marks : (k : Float) (u : Tree Node) → probe_f (more (map_t page1 t) (map_f page1 ts)) a m ≡ widen k u (probe_f (map_f page1 ts) a) → map_f below_of ts ≡ below_f (probe_f (map_f page1 ts) a k).nodes f
  rest-marks k u p = ap rest_f (split k u p)

  one-style : (k : Float) (u : Tree Node) → probe_f (more (map_t page1 t) (map_f page1 ts)) a m ≡ widen k u (probe_f (map_f page1 ts) a) → style_c (map_t page1 t) ≡ style_c (map_t page2 t)
  one-style k u p = same_style t agree (top_below t _ (child-marks k u p) (marks_top u f))

  reply_same : (q : ProbeInput) → want_of (style_c (map_t page1 t)) a ≡ want.Probe q → map_t below_of t ≡ marks_of (ask_p (map_t page1 t) q).nodes f
      → ((g : LayoutInput) → map_t below_of t ≡ below_t (probe_t (map_t page1 t) q).nodes g zero_f → AlikeP (probe_t (map_t page1 t) q) (probe_t (map_t page2 t) q))
      → AlikeP (ask_p (map_t page1 t) q) (ask_p (map_t page2 t) q)
  reply_same q w d ht = go (answered (map_t page1 t) q) refl
    where
      go : (b : Bool) → answered (map_t page1 t) q ≡ b → AlikeP (ask_p (map_t page1 t) q) (ask_p (map_t page2 t) q)
      go true b = rw (ask_p_stands (map_t page1 t) q b, ask_p_stands (map_t page2 t) q (sym (answered_same t q) ∙ b)) (stay_same t)
      go false b =
          let d1 : map_t below_of t ≡ marks_of (probe_t (map_t page1 t) q).nodes f = d ∙ ap (λ (x : Probed). marks_of x.nodes f) (ask_p_anew (map_t page1 t) q b) in
          rw (ask_p_anew (map_t page1 t) q b, ask_p_anew (map_t page2 t) q (sym (answered_same t q) ∙ b)) (ht _ (d1 ∙ anew_marks (map_t page1 t) a q f w))

  more_same : ((q : ProbeInput) (g : LayoutInput) → map_t below_of t ≡ below_t (probe_t (map_t page1 t) q).nodes g zero_f → AlikeP (probe_t (map_t page1 t) q) (probe_t (map_t page2 t) q))
      → ((k : Float) → map_f below_of ts ≡ below_f (probe_f (map_f page1 ts) a k).nodes f → AlikeW (probe_f (map_f page1 ts) a k) (probe_f (map_f page2 ts) a k))
      → AlikeW (probe_f (map_f page1 (more t ts)) a m) (probe_f (map_f page2 (more t ts)) a m)
  more_same ht hts = rw (map_f_more page1 t ts, map_f_more page2 t ts) (go (want_of (style_c (map_t page1 t)) a) refl)
    where
      also : (k : Float) (u : Tree Node) (w : Want) → probe_f (more (map_t page1 t) (map_f page1 ts)) a m ≡ widen k u (probe_f (map_f page1 ts) a) → want_of (style_c (map_t page1 t)) a ≡ w → want_of (style_c (map_t page2 t)) a ≡ w
      also k u w p d = ap (λ (s : Style). want_of s a) (sym (one-style k u p)) ∙ d

      go : (w : Want) → want_of (style_c (map_t page1 t)) a ≡ w → AlikeW (probe_f (more (map_t page1 t) (map_f page1 ts)) a m) (probe_f (more (map_t page2 t) (map_f page2 ts)) a m)
      go Nothing d =
          let p = probe_f_at (map_t page1 t) (map_f page1 ts) a m Nothing d in
          rw (p, probe_f_at (map_t page2 t) (map_f page2 ts) a m Nothing (also _ _ Nothing p d)) (widen_same _ _ _ _ _ _ refl (cleared_t t) (hts _ (rest-marks _ _ p)))
      go (Outer v) d =
          let p = probe_f_at (map_t page1 t) (map_f page1 ts) a m (Outer v) d in
          rw (p, probe_f_at (map_t page2 t) (map_f page2 ts) a m (Outer v) (also _ _ (Outer v) p d)) (widen_same _ _ _ _ _ _ refl (cleared_t t) (hts _ (rest-marks _ _ p)))
      go (want.Probe q) d =
          let p = probe_f_at (map_t page1 t) (map_f page1 ts) a m (want.Probe q) d in
          let s = one-style _ _ p in
          let h = reply_same q d (child-marks _ _ p) (λ g x. ht q g x) in
          rw (p, probe_f_at (map_t page2 t) (map_f page2 ts) a m (want.Probe q) (also _ _ (want.Probe q) p d))
          (widen_same _ _ _ _ _ _ (ap (λ (v : Float). larger m (outer_width (style_c (map_t page1 t)) a v)) h.same_answer ∙ ap (λ (z : Style). larger m (outer_width z a (ask_p (map_t page2 t) q).answer)) s) h.same_given (hts _ (rest-marks _ _ p)))

mutual
  unfolding AllT

  unread_t : (t : Tree Two) → AllT Agree t → (q : ProbeInput) (g : LayoutInput) → map_t below_of t ≡ below_t (probe_t (map_t page1 t) q).nodes g zero_f → AlikeP (probe_t (map_t page1 t) q) (probe_t (map_t page2 t) q)
  unread_t (node l ks) h q g e = node_same l ks q g zero_f h.0 e (λ a m f r. unread_f ks h.1 a m f r)

  unread_f : (ts : Forest Two) → AllF Agree ts → (a : AvailableSpace) (m : Float) (f : Frame) → map_f below_of ts ≡ below_f (probe_f (map_f page1 ts) a m).nodes f → AlikeW (probe_f (map_f page1 ts) a m) (probe_f (map_f page2 ts) a m)
  unread_f none h a m f e = none_same a m
  unread_f (more t ts) h a m f e = more_same t ts a m f (top_agree t h.0) e (λ q g r. unread_t t h.0 q g r) (λ k r. unread_f ts h.1 a k f r)

-- no mark at all: one page
mutual
  unfolding AllT map_t

  unmarked_t : (t : Tree Two) → AllT Agree t → map_t below_of t ≡ map_t (λ (_ : Two). false) t → map_t page1 t ≡ map_t page2 t
  unmarked_t (node l ks) h e = rw (same_cell l h.0 (ap top_t e), unmarked_f ks h.1 (ap kids_t e))

  unmarked_f : (ts : Forest Two) → AllF Agree ts → map_f below_of ts ≡ map_f (λ (_ : Two). false) ts → map_f page1 ts ≡ map_f page2 ts
  unmarked_f none h e = refl
  unmarked_f (more t ts) h e = rw (unmarked_t t h.0 (ap (first_f (map_t below_of t)) e), unmarked_f ts h.1 (ap rest_f e))

pub unread_pass : (t : Tree Two) (q : LayoutInput) → AllT Agree t → map_t below_of t ≡ below_kept (map_t page1 t) q → AlikeG (width_pass (map_t page1 t) q) (width_pass (map_t page2 t) q)
unfolding width_pass below_kept AllT map_t
unread_pass (node l ks) q h e =
    then_same _ _ _ (page_same (page1 l) ks _ q.parent _ _ (λ p. go p (is_leaf l.one.kind) refl))
    (ap (λ (c : Cell). width_pass (node c (map_f page2 ks)) q) (same_cell l h.0 (ap top_t e ∙ below_top _ q _)))
  where
    known : Option Float
    known = (known_of l.one (step_a l.one q.parent) q.known).width

    space : AvailableSpace
    space = space_in l.one q.parent q.available

    go : known ≡ None → (b : Bool) → is_leaf l.one.kind ≡ b → AlikeW (probe_f (map_f page1 ks) space zero_f) (probe_f (map_f page2 ks) space zero_f)
    go p true b = alike_w _ _ (ap (λ (us : Forest Cell). probe_f us space zero_f) (unmarked_f ks h.1 (ap kids_t e ∙ page_leaf (page1 l) _ known q.parent _ q _ b p ∙ shape ks space zero_f)))
    go p false b = unread_f ks h.1 space zero_f _ (ap kids_t e ∙ page_block (page1 l) _ known q.parent _ q _ b p)
