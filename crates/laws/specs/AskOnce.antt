-- Ask once, trust it (request 14): the both-axes size question gives the root's size of a fresh layout.
use Rattle.std.specs.Option.{option_or}
use Rattle.std.specs.Prelude.{◌≡◌, refl, Bool, true, false, cond, Float, Option, None, Some, unwrap_or}
use Rattle.std.proofs.Common.{sym, ap, ◌∙◌}
use Rattle.std.specs.Float.Ieee.{lt}
use Rattle.geometry.specs.Geometry.{down}
use Rattle.geometry.specs.declared.Size.{Size}
use Rattle.util.specs.Math.{larger, clamped}
use Rattle.util.specs.Maybe.{floor_opt}
use Rattle.style.specs.Flow.{is_leaf}
use Rattle.style.specs.declared.Style.{Style}
use Rattle.tree.specs.Tree.{Tree, Forest, node, map_t, map_f}
use Rattle.tree.proofs.Laws.{map_t_node}
use Rattle.steps.specs.Sizing.{sizing_of, step_a, known_axis, step_b, filled, step_d, known_of}
use Rattle.steps.specs.Edges.{step_i, frame_of}
use Rattle.steps.specs.Height.{step_k, step_l}
use Rattle.steps.specs.Through.{output_of, finished}
use Rattle.steps.specs.Row.{Row, ProbeWords, laid_row}
use Rattle.steps.specs.Page.{Site, Cell, Node, blank, cleared}
use Rattle.steps.specs.Probe.{Widest, pass_by, width_pass}
use Rattle.steps.specs.Layout.{relaid, fresh}
use Rattle.steps.specs.SizeQuestion.{axes, width_known, step_c, step_g, size_below}
use Rattle.steps.specs.declared.LayoutInput.{LayoutInput}
use Rattle.steps.specs.declared.LayoutOutput.{LayoutOutput}
use Rattle.steps.specs.declared.RequestedAxis.TheVariants.{Both}
use Rattle.steps.specs.declared.Sizing.{Sizing}
use Rattle.steps.specs.declared.Cursor.{Cursor}
use Rattle.steps.proofs.Clauses.{block_rows}

-- ---- B floors what it gives, and a second floor does nothing
itself : (p : Float) → larger p p ≡ p
unfolding larger
itself p = go (lt p p)
  where
    go : (b : Bool) → cond b p p ≡ p
    go true = refl
    go false = refl

twice : (x p : Float) → larger (larger x p) p ≡ larger x p
unfolding larger
twice x p = go (lt x p) refl
  where
    go : (b : Bool) → lt x p ≡ b → larger (cond (lt x p) p x) p ≡ cond (lt x p) p x
    go true e = rw e (itself p)
    go false e = rw (e, e)

some_inj : (x y : Float) → Some x ≡ Some y → x ≡ y
some_inj x y e = ap (λ (o : Option Float). unwrap_or o x) e

floored_once : (o : Option Float) (p h : Float) → floor_opt o p ≡ Some h → larger h p ≡ h
unfolding floor_opt
floored_once None p h e = cc
floored_once (Some x) p h e =
    let z : larger x p ≡ h = some_inj (larger x p) h e in
    ap (λ (v : Float). larger v p) (sym z) ∙ twice x p ∙ z

known_floored : (z : Sizing) (k : Size (Option Float)) (h : Float) → (step_b z k).height ≡ Some h → larger h (down z.both) ≡ h
unfolding step_b known_axis
known_floored z k h e = floored_once _ (down z.both) h e

-- ---- what a layout gives the root: content is what K finds
abbrev pub laid_size : Sizing → Size (Option Float) → Float → Float → Size Float
laid_size z k found content = axes (unwrap_or k.width found) (larger (unwrap_or k.height content) (down z.both))

-- D, F and G agree with it
pub rest_is : (z : Sizing) (k : Size (Option Float)) (found content : Float) → size_below Both z k found (laid_size z k found content) ≡ laid_size z k found content
unfolding size_below step_g
rest_is z k found content = go k.height refl
  where
    go : (o : Option Float) → k.height ≡ o → step_g Both (unwrap_or k.width found) (down z.both) k.height (laid_size z k found content) ≡ laid_size z k found content
    go None e = rw e
    go (Some h) e = rw e

-- a width or height that B gives is not filled by D
pub stays : (s : Style) (z : Sizing) (b : Size (Option Float)) (w : Float) → b.width ≡ Some w → (step_d s z b).width ≡ Some w
unfolding step_d filled
stays s z b w e = rw e

pub stays_tall : (s : Style) (z : Sizing) (b : Size (Option Float)) (h : Float) → b.height ≡ Some h → (step_d s z b).height ≡ Some h
unfolding step_d filled
stays_tall s z b h e = rw e

pub open_width : (o : Option Float) (r : Size Float) → step_c Both None o r ≡ r
unfolding step_c
open_width o r = refl

pub open_height : (w : Float) (r : Size Float) → step_c Both (Some w) None r ≡ r
unfolding step_c width_known
open_height w r = refl

pub both_axes : (w h : Float) (r : Size Float) → step_c Both (Some w) (Some h) r ≡ axes w h
unfolding step_c width_known
both_axes w h r = refl

pub known_both : (z : Sizing) (k : Size (Option Float)) (w h found content : Float) → (step_b z k).height ≡ Some h → axes w h ≡ axes (unwrap_or (Some w) found) (larger (unwrap_or (Some h) content) (down z.both))
known_both z k w h found content e = ap (axes w) (sym (known_floored z k h e))

-- ---- a laid block has such a size
pub record LaidSize (size : Size Float) (z : Sizing) (k : Size (Option Float)) (found : Float) : Type 0 where
  pub content : Float
  pub is : size ≡ laid_size z k found content

plain_a : (s : Style) (q : LayoutInput) → q.basis ≡ None → sizing_of s q.parent q.basis ≡ step_a s q.parent
unfolding step_a
plain_a s q e = rw e

pub frame_size : (s : Style) (q : LayoutInput) (found : Float) (c : Cursor) → q.basis ≡ None → LaidSize (finished s q (frame_of s q found) c).output.size (step_a s q.parent) (step_d s (step_a s q.parent) (step_b (step_a s q.parent) q.known)) found
unfolding finished output_of step_l frame_of step_i known_of axes
frame_size s q found c e =
    let f = frame_of s q found in
    record {
      content = clamped (step_k f c) f.minHeight f.maxHeight;
      is = ap (λ (z : Sizing). laid_size z (step_d s z (step_b z q.known)) found (clamped (step_k f c) f.minHeight f.maxHeight)) (plain_a s q e);
    }

-- ---- the root of a fresh page keeps its style
pub record RootIs (n : Node) (t : Tree Node) : Type 0 where
  pub kids : Forest Node
  pub is : t ≡ node n kids

pass_by_lem : (l : Cell) (ks : Forest Cell) (k p : Option Float) (r : Widest) → RootIs (cleared l) (pass_by l ks k p r).nodes
unfolding pass_by
pass_by_lem l ks (Some w) p r = record { kids = map_f cleared ks; is = refl }
pass_by_lem l ks None p r = record { kids = r.nodes; is = refl }

pub pass_root : (l : Cell) (ks : Forest Cell) (q : LayoutInput) → RootIs (cleared l) (width_pass (node l ks) q).nodes
unfolding width_pass
pass_root l ks q = pass_by_lem l ks _ _ _

abbrev pub root_of : Site → Node
root_of l = cleared (blank l)

pub kind_kept : (l : Site) → is_leaf (root_of l).site.style.kind ≡ is_leaf l.style.kind
unfolding cleared blank
kind_kept l = refl

-- ---- the root's row notes that size
pub record RootLaid (t : Tree Row) (q : LayoutInput) (o : LayoutOutput) : Type 0 where
  pub words : ProbeWords
  pub kids : Forest Row
  pub is : t ≡ node (laid_row q o words) kids

pub root_laid : (l : Site) (ks : Forest Site) (q : LayoutInput) → is_leaf l.style.kind ≡ false → RootLaid (fresh (node l ks) q).rows q (fresh (node l ks) q).out
unfolding fresh relaid
root_laid l ks q e =
    let m : map_t blank (node l ks) ≡ node (blank l) (map_f blank ks) = map_t_node blank l ks in
    let r = pass_root (blank l) (map_f blank ks) q in
    rw (m, r.is) (record { words = (root_of l).probe; kids = _; is = block_rows (root_of l) r.kids q (width_pass (node (blank l) (map_f blank ks)) q).found (kind_kept l ∙ e) })
