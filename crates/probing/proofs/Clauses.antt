-- The width pass of one node and of one child, as equations; a child keeps its number of nodes.
use Rattle.std.specs.Prelude.{Option, None, Some}
use mathlib.Core.Path.{◌≡◌, refl, sym, ap, ◌∙◌}
use mathlib.Core.Bool.{Bool, true, false}
use lib.Ieee.{Float}
use Rattle.geometry.specs.Geometry.{zero_f}
use Rattle.length.specs.declared.AvailableSpace.{AvailableSpace}
use Rattle.tree.specs.Tree.{Tree, Forest, node, more, count_t, map_f, root_t}
use Rattle.tree.proofs.Laws.{count_map_t}
use Rattle.steps.specs.Sizing.{step_a, known_of}
use Rattle.style.specs.Flow.{is_leaf}
use Rattle.steps.specs.Width.{want_of}
use Rattle.steps.specs.Row.{probe_note}
use Rattle.steps.specs.Page.{Cell, Node, cleared, probed_anew}
use Rattle.steps.specs.Probe.{Probed, Widest, probe_known, space_in, found_width, asked, block_probe, widen, probe_t, probe_f, ask_p, pass_by, width_pass}
use Rattle.steps.specs.declared.LayoutInput.{LayoutInput}
use Rattle.steps.specs.declared.ProbeInput.{ProbeInput}
use Rattle.steps.specs.declared.Want.{Want}
use Rattle.steps.specs.declared.Want.TheVariants.{Nothing, Outer}
use Rattle.steps.specs.declared.Want.TheVariants as want
use Rattle.steps.proofs.Clauses.{widest_in, by_f, probe_t_leaf, probe_t_block, probe_f_more}
use Rattle.steps.proofs.Cells.{cell_in, cells_ask}
use Rattle.probing.specs.Contract.{kids_t, Widened, widened_by, widened_t}

block_known : (l : Cell) (ks : Forest Cell) (q : ProbeInput) (k : Option Float) (w : Float) (r : Widest) → k ≡ Some w → block_probe l q ks k r ≡ asked l q w (map_f cleared ks)
unfolding block_probe
block_known l ks q k w r e = rw e

block_below : (l : Cell) (ks : Forest Cell) (q : ProbeInput) (k : Option Float) (r : Widest) → k ≡ None → block_probe l q ks k r ≡ asked l q (found_width l.site.style None r.most) r.nodes
unfolding block_probe
block_below l ks q k r e = rw e

pub probe_t_known : (l : Cell) (ks : Forest Cell) (q : ProbeInput) (w : Float) → is_leaf l.site.style.kind ≡ false → (probe_known l.site.style q).width ≡ Some w → probe_t (node l ks) q ≡ asked l q w (map_f cleared ks)
probe_t_known l ks q w e k = probe_t_block l ks q e ∙ block_known l ks q _ w (widest_in l ks q) k

pub probe_t_below : (l : Cell) (ks : Forest Cell) (q : ProbeInput) → is_leaf l.site.style.kind ≡ false → (probe_known l.site.style q).width ≡ None
    → probe_t (node l ks) q ≡ asked l q (found_width l.site.style None (widest_in l ks q).most) (widest_in l ks q).nodes
probe_t_below l ks q e k = probe_t_block l ks q e ∙ block_below l ks q _ (widest_in l ks q) k

-- what `asked` makes
pub asked_answer : (l : Cell) (q : ProbeInput) (w : Float) (us : Forest Node) → (asked l q w us).answer ≡ w
unfolding asked
asked_answer l q w us = refl

pub asked_kids : (l : Cell) (q : ProbeInput) (w : Float) (us : Forest Node) → kids_t (asked l q w us).nodes ≡ us
unfolding asked kids_t
asked_kids l q w us = refl

asked_node : (l : Cell) (q : ProbeInput) (w : Float) (us : Forest Node) (p : Probed) → p ≡ asked l q w us → p.nodes ≡ node (probed_anew l (probe_note q p.answer)) (kids_t p.nodes)
unfolding asked kids_t
asked_node l q w us p e = rw e

-- the root of a probe put anew notes its answer
known_node : (l : Cell) (ks : Forest Cell) (q : ProbeInput) (k : Option Float) → is_leaf l.site.style.kind ≡ false → (probe_known l.site.style q).width ≡ k
    → (probe_t (node l ks) q).nodes ≡ node (probed_anew l (probe_note q (probe_t (node l ks) q).answer)) (kids_t (probe_t (node l ks) q).nodes)
known_node l ks q (Some w) e k = asked_node l q w (map_f cleared ks) (probe_t (node l ks) q) (probe_t_known l ks q w e k)
known_node l ks q None e k = asked_node l q _ _ (probe_t (node l ks) q) (probe_t_below l ks q e k)

leaf_node : (l : Cell) (ks : Forest Cell) (q : ProbeInput) (b : Bool) → is_leaf l.site.style.kind ≡ b → (probe_t (node l ks) q).nodes ≡ node (probed_anew l (probe_note q (probe_t (node l ks) q).answer)) (kids_t (probe_t (node l ks) q).nodes)
leaf_node l ks q true e = asked_node l q _ (map_f cleared ks) (probe_t (node l ks) q) (probe_t_leaf l ks q e)
leaf_node l ks q false e = known_node l ks q (probe_known l.site.style q).width e refl

pub anew_node : (l : Cell) (ks : Forest Cell) (q : ProbeInput) → (probe_t (node l ks) q).nodes ≡ node (probed_anew l (probe_note q (probe_t (node l ks) q).answer)) (kids_t (probe_t (node l ks) q).nodes)
anew_node l ks q = leaf_node l ks q (is_leaf l.site.style.kind) refl

-- the rest of the siblings, behind one child
abbrev pub and_then : Widened → (Float → Widest) → Widest
and_then p rest = record { most = (rest p.most).most; nodes = more p.nodes (rest p.most).nodes }

more_by : (t : Tree Cell) (ts : Forest Cell) (a : AvailableSpace) (m : Float) (w : Want) → by_f t ts a m w ≡ and_then (widened_by w m a t) (probe_f ts a)
unfolding widen widened_by
more_by t ts a m Nothing = refl
more_by t ts a m (Outer o) = refl
more_by t ts a m (want.Probe q) = refl

pub widened_more : (t : Tree Cell) (ts : Forest Cell) (a : AvailableSpace) (m : Float) → probe_f (more t ts) a m ≡ and_then (widened_t m a t) (probe_f ts a)
unfolding widened_t
widened_more t ts a m = probe_f_more t ts a m ∙ more_by t ts a m (want_of (root_t t).site.style a)

pub widened_t_is : (m : Float) (a : AvailableSpace) (t : Tree Cell) (w : Want) → want_of (root_t t).site.style a ≡ w → widened_t m a t ≡ widened_by w m a t
unfolding widened_t
widened_t_is m a t w e = ap (λ (z : Want). widened_by z m a t) e

-- the page
pub pass_known : (l : Cell) (ks : Forest Cell) (q : LayoutInput) (w : Float) → (known_of l.site.style (step_a l.site.style q.parent) q.known).width ≡ Some w
    → width_pass (node l ks) q ≡ record { found = zero_f; nodes = node (cleared l) (map_f cleared ks) }
unfolding width_pass pass_by
pass_known l ks q w e = rw e

abbrev pub inside : Cell → LayoutInput → Forest Cell → Widest
inside l q ks = probe_f ks (space_in l.site.style q.parent q.available) zero_f

pub pass_below : (l : Cell) (ks : Forest Cell) (q : LayoutInput) → (known_of l.site.style (step_a l.site.style q.parent) q.known).width ≡ None
    → width_pass (node l ks) q ≡ record { found = found_width l.site.style q.parent (inside l q ks).most; nodes = node (cleared l) (inside l q ks).nodes }
unfolding width_pass pass_by
pass_below l ks q e = rw e

-- shape
count_by : (w : Want) (m : Float) (a : AvailableSpace) (t : Tree Cell) → count_t (widened_by w m a t).nodes ≡ count_t t
unfolding widened_by
count_by Nothing m a t = count_map_t cleared t
count_by (Outer o) m a t = count_map_t cleared t
count_by (want.Probe q) m a t = sym (count_map_t cell_in (ask_p t q).nodes) ∙ ap count_t (cells_ask t q)

pub count_widened : (m : Float) (a : AvailableSpace) (t : Tree Cell) → count_t (widened_t m a t).nodes ≡ count_t t
unfolding widened_t
count_widened m a t = count_by (want_of (root_t t).site.style a) m a t
