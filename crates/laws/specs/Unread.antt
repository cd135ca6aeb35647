-- The width pass reads no style below a node that the final pass keeps.
use Rattle.std.specs.Prelude.{◌≡◌, refl, Bool, true, false, not, Float, Option, None, Some}
use Rattle.std.proofs.Common.{sym, ap, ◌∙◌}
use Rattle.geometry.specs.Geometry.{zero_f}
use Rattle.limits.specs.Bools.{and_false}
use Rattle.length.specs.declared.AvailableSpace.{AvailableSpace}
use Rattle.style.specs.declared.Style.{Style}
use Rattle.tree.specs.Tree.{Tree, Forest, node, none, more, map_t, map_f, root_t}
use Rattle.tree.proofs.Laws.{root_t_map, map_map_t, map_map_f}
use Rattle.style.specs.Flow.{is_leaf, flow_of, is_in}
use Rattle.steps.specs.Width.{want_of}
use Rattle.steps.specs.Edges.{frame_of}
use Rattle.steps.specs.Stack.{question_to}
use Rattle.steps.specs.Row.{Row, ProbeWords, no_probe, probe_of}
use Rattle.steps.specs.Page.{Cell, Node, any_t, edits, cleared, staying, probed_anew}
use Rattle.steps.specs.Probe.{Probed, Widest, Passed, answered, stay, probe_t, probe_f, asked, block_probe, probe_known, found_width, widen, pass_by}
use Rattle.steps.specs.Kept.{kept, edited_node}
use Rattle.style.specs.declared.Flow.{Flow}
use Rattle.style.specs.declared.Flow.TheVariants.{Gone, Out, In}
use Rattle.steps.specs.declared.Want.TheVariants as want
use Rattle.steps.specs.declared.ProbeInput.{ProbeInput}
use Rattle.steps.specs.declared.LayoutInput.{LayoutInput}
use Rattle.steps.specs.declared.Frame.{Frame}
use Rattle.steps.proofs.Clauses.{style_t, style_c, probe_t_leaf, probe_t_block, any_map_t}
use Rattle.steps.proofs.Cells.{cells_f, cell_in}
use Rattle.laws.specs.Trees.{AllT, top_t, kids_t}
use Rattle.laws.specs.Rides.{probed_in, style_probed}
use Rattle.laws.specs.Below.{Two, page1, page2, below_of, Agree, below_t, below_f}
use Rattle.laws.specs.Marks.{marks_of, below_more, below_leaf, below_block, marks_at, marks_laid}

-- what the width pass gives a node
pub record Given : Type 0 where
  pub probe : ProbeWords
  pub anew : Bool

abbrev pub given_in : Node → Given
given_in n = record { probe = n.probe; anew = n.anew }

pub record AlikeP (a b : Probed) : Type 0 where
  pub same_answer : a.answer ≡ b.answer
  pub same_given : map_t given_in a.nodes ≡ map_t given_in b.nodes

pub record AlikeW (a b : Widest) : Type 0 where
  pub same_most : a.most ≡ b.most
  pub same_given : map_f given_in a.nodes ≡ map_f given_in b.nodes

-- where the pages are one, all is one
pub alike_w : (a b : Widest) → a ≡ b → AlikeW a b
alike_w a b e = record { same_most = ap (λ (w : Widest). w.most) e; same_given = ap (λ (w : Widest). map_f given_in w.nodes) e }

pub cleared_t : (t : Tree Two) → map_t given_in (map_t cleared (map_t page1 t)) ≡ map_t given_in (map_t cleared (map_t page2 t))
unfolding cleared
cleared_t t =
    map_map_t given_in cleared (map_t page1 t) ∙ map_map_t (λ (_ : Cell). record { probe = no_probe; anew = false }) page1 t
    ∙ sym (map_map_t given_in cleared (map_t page2 t) ∙ map_map_t (λ (_ : Cell). record { probe = no_probe; anew = false }) page2 t)

pub cleared_f : (ts : Forest Two) → map_f given_in (map_f cleared (map_f page1 ts)) ≡ map_f given_in (map_f cleared (map_f page2 ts))
unfolding cleared
cleared_f ts =
    map_map_f given_in cleared (map_f page1 ts) ∙ map_map_f (λ (_ : Cell). record { probe = no_probe; anew = false }) page1 ts
    ∙ sym (map_map_f given_in cleared (map_f page2 ts) ∙ map_map_f (λ (_ : Cell). record { probe = no_probe; anew = false }) page2 ts)

-- a probe that stands reads rows and edits alone
edits_t : (t : Tree Two) → any_t edits (map_t page1 t) ≡ any_t edits (map_t page2 t)
unfolding edits
edits_t t = any_map_t edits page1 t ∙ sym (any_map_t edits page2 t)

same_old : (t : Tree Two) → (root_t (map_t page1 t)).old ≡ (root_t (map_t page2 t)).old
same_old t = ap (λ (c : Cell). c.old) (root_t_map page1 t) ∙ sym (ap (λ (c : Cell). c.old) (root_t_map page2 t))

pub answered_same : (t : Tree Two) (q : ProbeInput) → answered (map_t page1 t) q ≡ answered (map_t page2 t) q
unfolding answered
answered_same t q = rw (edits_t t, same_old t)

pub stay_same : (t : Tree Two) → AlikeP (stay (map_t page1 t)) (stay (map_t page2 t))
unfolding stay staying
stay_same t = record {
  same_answer = ap (λ (r : Row). r.probe.answer) (same_old t);
  same_given =
      map_map_t given_in staying (map_t page1 t) ∙ map_map_t (λ (c : Cell). record { probe = probe_of c.old; anew = false }) page1 t
      ∙ sym (map_map_t given_in staying (map_t page2 t) ∙ map_map_t (λ (c : Cell). record { probe = probe_of c.old; anew = false }) page2 t);
}

-- a node that is not below a kept one: one cell
pub same_cell : (l : Two) → Agree l → l.below ≡ false → page1 l ≡ page2 l
same_cell l h b = ap (λ (s : Style). record { site = record { node = l.node; style = s; edit = l.edit }; old = l.old }) (h.style b)

-- a node probed anew is not kept
anew_kept : (u : Tree Node) (q : LayoutInput) → (root_t u).anew ≡ true → kept u q ≡ false
unfolding kept
anew_kept u q e = rw e (and_false (not (any_t edited_node u)))

asked_anew : (l : Cell) (q : ProbeInput) (a : Float) (us : Forest Node) → (root_t (asked l q a us).nodes).anew ≡ true
unfolding asked probed_anew root_t
asked_anew l q a us = refl

box_anew : (l : Cell) (q : ProbeInput) (ks : Forest Cell) (w : Option Float) (r : Widest) → (root_t (block_probe l q ks w r).nodes).anew ≡ true
unfolding block_probe
box_anew l q ks None r = asked_anew l q _ _
box_anew l q ks (Some w) r = asked_anew l q w _

probed_anew_lem : (t : Tree Cell) (q : ProbeInput) → (root_t (probe_t t q).nodes).anew ≡ true
probed_anew_lem (node l ks) q = go (is_leaf l.site.style.kind) refl
  where
    go : (b : Bool) → is_leaf l.site.style.kind ≡ b → (root_t (probe_t (node l ks) q).nodes).anew ≡ true
    go true e = rw (probe_t_leaf l ks q e) (asked_anew l q _ _)
    go false e = rw (probe_t_block l ks q e) (box_anew l q ks (probe_known l.site.style q).width _)

is_in_lem : (f : Flow) → is_in f ≡ true → f ≡ In
unfolding is_in
is_in_lem Gone e = cc
is_in_lem Out e = cc
is_in_lem In e = refl

-- so its marks are those of a container that is laid out
pub anew_marks : (t : Tree Cell) (a : AvailableSpace) (q : ProbeInput) (f : Frame) → want_of (style_c t) a ≡ want.Probe q
    → marks_of (probe_t t q).nodes f ≡ below_t (probe_t t q).nodes (question_to f (style_t (probe_t t q).nodes)) zero_f
anew_marks t a q f e =
    let i : flow_of (style_t (probe_t t q).nodes) ≡ In = is_in_lem _ (ap (λ (s : Style). is_in (flow_of s)) (style_probed t q) ∙ probed_in _ a q e) in
    marks_at _ f In i ∙ marks_laid _ f (anew_kept _ _ (probed_anew_lem t q))

-- a container put to a probe
pub asked_same : (l : Cell) (q : ProbeInput) (a b : Float) (us vs : Forest Node) → a ≡ b → map_f given_in us ≡ map_f given_in vs → AlikeP (asked l q a us) (asked l q b vs)
unfolding asked probed_anew map_t
asked_same l q a b us vs p e = record { same_answer = p; same_given = rw (p, e) }

pub box_same : (l : Cell) (q : ProbeInput) (ks : Forest Two) (w : Option Float) (r s : Widest) → (w ≡ None → AlikeW r s) → AlikeP (block_probe l q (map_f page1 ks) w r) (block_probe l q (map_f page2 ks) w s)
unfolding block_probe
box_same l q ks None r s h = asked_same l q _ _ _ _ (ap (found_width l.site.style None) (h refl).same_most) (h refl).same_given
box_same l q ks (Some w) r s h = asked_same l q w w _ _ refl (cleared_f ks)

-- below it: its children's marks, where F asked them
asked_below : (l : Cell) (q : ProbeInput) (a : Float) (us : Forest Node) (g : LayoutInput) (found : Float) → is_leaf l.site.style.kind ≡ false
    → kids_t (below_t (asked l q a us).nodes g found) ≡ below_f us (frame_of l.site.style g found)
unfolding asked probed_anew
asked_below l q a us g found e = below_block _ us g found e

pub box_below : (l : Cell) (q : ProbeInput) (ks : Forest Cell) (w : Option Float) (r : Widest) (g : LayoutInput) (found : Float) → is_leaf l.site.style.kind ≡ false → w ≡ None
    → kids_t (below_t (block_probe l q ks w r).nodes g found) ≡ below_f r.nodes (frame_of l.site.style g found)
unfolding block_probe
box_below l q ks None r g found e p = asked_below l q _ r.nodes g found e
box_below l q ks (Some w) r g found e p = cc

-- one child, and the rest
pub widen_same : (m n : Float) (t u : Tree Node) (g h : Float → Widest) → m ≡ n → map_t given_in t ≡ map_t given_in u → AlikeW (g m) (h m) → AlikeW (widen m t g) (widen n u h)
unfolding widen map_f
widen_same m n t u g h p e r = record { same_most = r.same_most ∙ ap (λ (k : Float). (h k).most) p; same_given = rw (← p, e, r.same_given) }

pub widen_below : (m : Float) (t : Tree Node) (g : Float → Widest) (f : Frame) → below_f (widen m t g).nodes f ≡ more (marks_of t f) (below_f (g m).nodes f)
unfolding widen
widen_below m t g f = below_more t (g m).nodes f

pub top_agree : (t : Tree Two) → AllT Agree t → Agree (root_t t)
unfolding AllT root_t
top_agree (node l ks) h = h.0

pub top_below : (t : Tree Two) (u : Tree Bool) → map_t below_of t ≡ u → top_t u ≡ false → (root_t t).below ≡ false
unfolding map_t root_t
top_below (node l ks) u e p = ap top_t e ∙ p

pub same_style : (t : Tree Two) → Agree (root_t t) → (root_t t).below ≡ false → style_c (map_t page1 t) ≡ style_c (map_t page2 t)
same_style t h b = ap (λ (c : Cell). c.site.style) (root_t_map page1 t) ∙ h.style b ∙ sym (ap (λ (c : Cell). c.site.style) (root_t_map page2 t))

pub none_same : (a : AvailableSpace) (m : Float) → AlikeW (probe_f (map_f page1 none) a m) (probe_f (map_f page2 none) a m)
unfolding map_f
none_same a m = record { same_most = refl; same_given = refl }

-- the page
pub record AlikeG (a b : Passed) : Type 0 where
  pub same_found : a.found ≡ b.found
  pub same_given : map_t given_in a.nodes ≡ map_t given_in b.nodes

pub page_same : (l : Cell) (ks : Forest Two) (w parent : Option Float) (r s : Widest) → (w ≡ None → AlikeW r s) → AlikeG (pass_by l (map_f page1 ks) w parent r) (pass_by l (map_f page2 ks) w parent s)
unfolding pass_by cleared map_t
page_same l ks None parent r s h = record { same_found = rw (h refl).same_most; same_given = rw (h refl).same_given }
page_same l ks (Some w) parent r s h = record { same_found = refl; same_given = ap (node (record { probe = no_probe; anew = false })) (cleared_f ks) }

pub page_leaf : (c : Cell) (ks : Forest Cell) (w parent : Option Float) (r : Widest) (q : LayoutInput) (found : Float) → is_leaf c.site.style.kind ≡ true → w ≡ None → kids_t (below_t (pass_by c ks w parent r).nodes q found) ≡ map_f (λ (_ : Node). false) r.nodes
unfolding pass_by cleared
page_leaf c ks None parent r q found b p = below_leaf _ r.nodes q found b
page_leaf c ks (Some w) parent r q found b p = cc

pub page_block : (c : Cell) (ks : Forest Cell) (w parent : Option Float) (r : Widest) (q : LayoutInput) (found : Float) → is_leaf c.site.style.kind ≡ false → w ≡ None
    → kids_t (below_t (pass_by c ks w parent r).nodes q found) ≡ below_f r.nodes (frame_of c.site.style q found)
unfolding pass_by cleared
page_block c ks None parent r q found b p = below_block _ r.nodes q found b
page_block c ks (Some w) parent r q found b p = cc

pub shape : (ks : Forest Two) (a : AvailableSpace) (m : Float) → map_f (λ (_ : Node). false) (probe_f (map_f page1 ks) a m).nodes ≡ map_f (λ (_ : Two). false) ks
shape ks a m =
    sym (map_map_f (λ (_ : Cell). false) cell_in (probe_f (map_f page1 ks) a m).nodes) ∙ ap (map_f (λ (_ : Cell). false)) (cells_f (map_f page1 ks) a m)
    ∙ map_map_f (λ (_ : Cell). false) page1 ks

pub then_same : (a b c : Passed) → AlikeG a b → b ≡ c → AlikeG a c
then_same a b c h e = rw e at h
