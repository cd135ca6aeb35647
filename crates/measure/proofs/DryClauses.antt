-- The clauses of both passes without rows, as equations.
use Rattle.std.specs.Prelude.{None}
use mathlib.Core.Path.{◌≡◌, refl, ap}
use mathlib.Core.Bool.{Bool, true, false}
use Prim.Native.Nat.{◌+◌, ◌≤◌}
use native.Mathlib.Omega.{arith}
use lib.Ieee.{Float}
use Rattle.geometry.specs.Geometry.{zero_f}
use Rattle.util.specs.Math.{larger}
use Rattle.length.specs.declared.AvailableSpace.{AvailableSpace}
use Rattle.tree.specs.Tree.{Tree, Forest, node, none, more, root_t}
use Rattle.style.specs.Flow.{is_leaf, flow_of}
use Rattle.steps.specs.Width.{want_of, outer_width, leaf_width}
use Rattle.steps.specs.Edges.{frame_of}
use Rattle.steps.specs.Stack.{start_of, item_of, question_to, stepped, past_aside, past_hidden}
use Rattle.steps.specs.Through.{finished, leaf_output}
use Rattle.steps.specs.Page.{Site}
use Rattle.steps.specs.Probe.{probe_known, space_in}
use Rattle.style.specs.declared.Flow.{Flow}
use Rattle.style.specs.declared.Flow.TheVariants.{Gone, Out, In}
use Rattle.steps.specs.declared.Want.{Want}
use Rattle.steps.specs.declared.Want.TheVariants.{Nothing, Outer}
use Rattle.steps.specs.declared.Want.TheVariants as want
use Rattle.steps.specs.declared.ProbeInput.{ProbeInput}
use Rattle.steps.specs.declared.LayoutInput.{LayoutInput}
use Rattle.steps.specs.declared.Frame.{Frame}
use Rattle.steps.specs.declared.Cursor.{Cursor}
use Rattle.compute.proofs.OneChild.{stepped_counts}
use Rattle.measure.specs.Dry.{width_by, width_t, width_f, widen_by, widened, size_t, size_f, past_by, past_t}

-- ---- the width pass
width_t_by : (l : Site) (ks : Forest Site) (q : ProbeInput) (b : Bool) → is_leaf l.style.kind ≡ b
    → width_t (node l ks) q
    ≡ elim b [ true ↦ leaf_width l.style.measure q.available | false ↦ width_by l.style (probe_known l.style q).width (width_f ks (space_in l.style None q.available) zero_f) ]
unfolding width_t
width_t_by l ks q b e =
    ap (λ (b : Bool). elim b [ true ↦ leaf_width l.style.measure q.available | false ↦ width_by l.style (probe_known l.style q).width (width_f ks (space_in l.style None q.available) zero_f) ]) e

pub width_t_leaf : (l : Site) (ks : Forest Site) (q : ProbeInput) → is_leaf l.style.kind ≡ true → width_t (node l ks) q ≡ leaf_width l.style.measure q.available
width_t_leaf l ks q e = width_t_by l ks q true e

pub width_t_block : (l : Site) (ks : Forest Site) (q : ProbeInput) → is_leaf l.style.kind ≡ false
    → width_t (node l ks) q ≡ width_by l.style (probe_known l.style q).width (width_f ks (space_in l.style None q.available) zero_f)
width_t_block l ks q e = width_t_by l ks q false e

pub width_f_none : (a : AvailableSpace) (m : Float) → width_f none a m ≡ m
unfolding width_f
width_f_none a m = refl

width_f_by : (t : Tree Site) (ts : Forest Site) (a : AvailableSpace) (m : Float) (w : Want)
    → elim w [ Nothing ↦ width_f ts a m | Outer w ↦ width_f ts a (larger m w) | want.Probe q ↦ width_f ts a (larger m (outer_width (root_t t).style a (width_t t q))) ] ≡ width_f ts a (widen_by w t a m)
unfolding widen_by
width_f_by t ts a m Nothing = refl
width_f_by t ts a m (Outer w) = refl
width_f_by t ts a m (want.Probe q) = refl

pub width_f_more : (t : Tree Site) (ts : Forest Site) (a : AvailableSpace) (m : Float) → width_f (more t ts) a m ≡ width_f ts a (widened t a m)
unfolding width_f widened
width_f_more t ts a m = width_f_by t ts a m (want_of (root_t t).style a)

-- ---- the final pass
size_t_by : (l : Site) (ks : Forest Site) (q : LayoutInput) (w : Float) (b : Bool) → is_leaf l.style.kind ≡ b
    → size_t (node l ks) q w
    ≡ elim b [ true ↦ leaf_output l.style.measure q | false ↦ (finished l.style q (frame_of l.style q w) (size_f ks (frame_of l.style q w) (start_of (frame_of l.style q w)))).output ]
unfolding size_t
size_t_by l ks q w b e =
    ap (λ (b : Bool). elim b [ true ↦ leaf_output l.style.measure q | false ↦ (finished l.style q (frame_of l.style q w) (size_f ks (frame_of l.style q w) (start_of (frame_of l.style q w)))).output ]) e

pub size_t_leaf : (l : Site) (ks : Forest Site) (q : LayoutInput) (w : Float) → is_leaf l.style.kind ≡ true → size_t (node l ks) q w ≡ leaf_output l.style.measure q
size_t_leaf l ks q w e = size_t_by l ks q w true e

pub size_t_block : (l : Site) (ks : Forest Site) (q : LayoutInput) (w : Float) → is_leaf l.style.kind ≡ false
    → size_t (node l ks) q w ≡ (finished l.style q (frame_of l.style q w) (size_f ks (frame_of l.style q w) (start_of (frame_of l.style q w)))).output
size_t_block l ks q w e = size_t_by l ks q w false e

pub size_f_none : (f : Frame) (c : Cursor) → size_f none f c ≡ c
unfolding size_f
size_f_none f c = refl

size_f_by : (t : Tree Site) (ts : Forest Site) (f : Frame) (c : Cursor) (w : Flow)
    → elim w [ Gone ↦ size_f ts f (past_hidden c) | Out ↦ size_f ts f (past_aside c) | In ↦ size_f ts f (stepped f c (item_of f (root_t t).style) (size_t t (question_to f (root_t t).style) zero_f)) ] ≡ size_f ts f (past_by w f c t)
unfolding past_by
size_f_by t ts f c Gone = refl
size_f_by t ts f c Out = refl
size_f_by t ts f c In = refl

pub size_f_more : (t : Tree Site) (ts : Forest Site) (f : Frame) (c : Cursor) → size_f (more t ts) f c ≡ size_f ts f (past_t f c t)
unfolding size_f past_t
size_f_more t ts f c = size_f_by t ts f c (flow_of (root_t t).style)

-- ---- the cursor counts one more
counts_by : (f : Frame) (c : Cursor) (t : Tree Site) (w : Flow) → ((past_by w f c t).count ≡ c.count + 1) × ((past_by w f c t).shown.0 ≤ c.shown.0 + 1)
unfolding past_by past_hidden past_aside
counts_by f c t Gone = (refl, omega arith)
counts_by f c t Out = (refl, omega arith)
counts_by f c t In =
    let h = stepped_counts f c (item_of f (root_t t).style) (size_t t (question_to f (root_t t).style) zero_f) in
    (h.0, omega (arith, h.1))

pub counts_more : (f : Frame) (c : Cursor) (t : Tree Site) → ((past_t f c t).count ≡ c.count + 1) × ((past_t f c t).shown.0 ≤ c.shown.0 + 1)
unfolding past_t
counts_more f c t = counts_by f c t (flow_of (root_t t).style)
