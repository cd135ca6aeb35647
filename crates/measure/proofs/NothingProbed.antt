-- Where every old row is zero no probe stands answered, and the width pass finds what the sites alone give.
use Rattle.std.specs.Prelude.{Option, None, Some}
use mathlib.Core.Path.{◌≡◌, refl, sym, ap, ◌∙◌}
use mathlib.Core.Bool.{Bool, true, false}
use lib.Ieee.{Float}
use Rattle.geometry.specs.Geometry.{zero_f}
use Rattle.util.specs.Math.{larger}
use Rattle.length.specs.declared.AvailableSpace.{AvailableSpace}
use Rattle.tree.specs.Tree.{Tree, Forest, node, none, more, map_t, map_f, root_t}
use Rattle.tree.proofs.Laws.{map_t_node, map_f_none, map_f_more, root_t_node, root_t_map}
use Rattle.steps.specs.Sizing.{step_a, known_of}
use Rattle.style.specs.Flow.{is_leaf}
use Rattle.steps.specs.Width.{want_of, outer_width, leaf_width}
use Rattle.steps.specs.Row.{no_row}
use Rattle.steps.specs.Page.{Site, Cell, Node, blank, cleared, probed_anew}
use Rattle.steps.specs.Probe.{Probed, Widest, Passed, probe_known, space_in, found_width, answered, asked, block_probe, stay, widen, probe_t, probe_f, pass_by, width_pass}
use Rattle.steps.specs.declared.Want.{Want}
use Rattle.steps.specs.declared.Want.TheVariants.{Nothing, Outer}
use Rattle.steps.specs.declared.Want.TheVariants as want
use Rattle.steps.specs.declared.ProbeInput.{ProbeInput}
use Rattle.steps.specs.declared.LayoutInput.{LayoutInput}
use Rattle.steps.proofs.Zeros.{unprobed, not_answered}
use Rattle.measure.specs.Dry.{width_by, width_t, width_f, widen_by, widened, found_by, found_t}
use Rattle.measure.proofs.DryClauses.{width_t_leaf, width_t_block, width_f_none, width_f_more}
use Rattle.measure.proofs.NothingKept.{NodesT, NodesF, nodes_node, nodes_none, nodes_more, nodes_clear, nodes_clears}

blank_old : (t : Tree Site) → (root_t (map_t blank t)).old ≡ no_row
unfolding blank
blank_old t = ap (λ (z : Cell). z.old) (root_t_map blank t)

pub blank_site : (t : Tree Site) → (root_t (map_t blank t)).site ≡ root_t t
unfolding blank
blank_site t = ap (λ (z : Cell). z.site) (root_t_map blank t)

-- no probe stands
pub none_answered : (t : Tree Site) (q : ProbeInput) → answered (map_t blank t) q ≡ false
none_answered t q = not_answered (map_t blank t) q (unprobed q _ (blank_old t))

-- a probe's answer and the nodes that it leaves
record ProbeOf (t : Tree Site) (q : ProbeInput) (p : Probed) : Type 0 where
  answer : width_t t q ≡ p.answer
  nodes : NodesT t p.nodes

record WidestOf (ts : Forest Site) (a : AvailableSpace) (m : Float) (r : Widest) : Type 0 where
  most : width_f ts a m ≡ r.most
  nodes : NodesF ts r.nodes

asked_of : (s : Site) (ks : Forest Site) (q : ProbeInput) (x : Float) (ns : Forest Node) → width_t (node s ks) q ≡ x → NodesF ks ns → ProbeOf (node s ks) q (asked (blank s) q x ns)
unfolding asked probed_anew blank
asked_of s ks q x ns e h = record { answer = e; nodes = nodes_node _ s ks ns refl refl h }

block_of : (s : Site) (ks : Forest Site) (q : ProbeInput) (o : Option Float) (r : Widest) → width_t (node s ks) q ≡ width_by s.style o (width_f ks (space_in s.style None q.available) zero_f)
    → WidestOf ks (space_in s.style None q.available) zero_f r → ProbeOf (node s ks) q (block_probe (blank s) q (map_f blank ks) o r)
unfolding block_probe width_by blank
block_of s ks q (Some w) r e h = asked_of s ks q w (map_f cleared (map_f blank ks)) e (nodes_clears ks)
block_of s ks q None r e h = asked_of s ks q (found_width s.style None r.most) r.nodes (e ∙ ap (found_width s.style None) h.most) h.nodes

probe_node : (s : Site) (ks : Forest Site) (q : ProbeInput) (v : Bool) → is_leaf s.style.kind ≡ v → ((a : AvailableSpace) → WidestOf ks a zero_f (probe_f (map_f blank ks) a zero_f)) → ProbeOf (node s ks) q (probe_t (node (blank s) (map_f blank ks)) q)
unfolding probe_t blank is_leaf
probe_node s ks q true e h = rw e (asked_of s ks q (leaf_width s.style.measure q.available) (map_f cleared (map_f blank ks)) (width_t_leaf s ks q e) (nodes_clears ks))
probe_node s ks q false e h = rw e (block_of s ks q (probe_known s.style q).width _ (width_t_block s ks q e) (h (space_in s.style None q.available)))

widen_of : (t : Tree Site) (ts : Forest Site) (a : AvailableSpace) (m n : Float) (u : Tree Node) (rest : Float → Widest) → widened t a m ≡ n → NodesT t u → WidestOf ts a n (rest n) → WidestOf (more t ts) a m (widen n u rest)
unfolding widen
widen_of t ts a m n u rest e h k = record { most = width_f_more t ts a m ∙ ap (width_f ts a) e ∙ k.most; nodes = nodes_more t ts u (rest n).nodes h k.nodes }

-- the children one after the other, with no probe answered
abbrev probe_more : Want → Tree Cell → Forest Cell → AvailableSpace → Float → Widest
probe_more w t ts a m =
    elim w [
      | Nothing ↦ widen m (map_t cleared t) (probe_f ts a)
      | Outer w ↦ widen (larger m w) (map_t cleared t) (probe_f ts a)
      | want.Probe q ↦ let p : Probed = elim (answered t q) [ true ↦ stay t | false ↦ probe_t t q ] in widen (larger m (outer_width (root_t t).site.style a p.answer)) p.nodes (probe_f ts a)
    ]

more_of : (w : Want) (t : Tree Site) (ts : Forest Site) (a : AvailableSpace) (m : Float) → widened t a m ≡ widen_by w t a m → ((q : ProbeInput) → ProbeOf t q (probe_t (map_t blank t) q))
    → ((n : Float) → WidestOf ts a n (probe_f (map_f blank ts) a n)) → WidestOf (more t ts) a m (probe_more w (map_t blank t) (map_f blank ts) a m)
unfolding widen_by
more_of Nothing t ts a m e h k = widen_of t ts a m m _ (probe_f (map_f blank ts) a) e (nodes_clear t) (k m)
more_of (Outer w) t ts a m e h k = widen_of t ts a m (larger m w) _ (probe_f (map_f blank ts) a) e (nodes_clear t) (k (larger m w))
more_of (want.Probe q) t ts a m e h k =
    rw (none_answered t q, blank_site t) (widen_of t ts a m _ _ (probe_f (map_f blank ts) a) (e ∙ ap (λ (x : Float). larger m (outer_width (root_t t).style a x)) (h q).answer) (h q).nodes (k _))

probe_more_lem : (t : Tree Site) (ts : Forest Site) (a : AvailableSpace) (m : Float) → ((q : ProbeInput) → ProbeOf t q (probe_t (map_t blank t) q)) → ((n : Float) → WidestOf ts a n (probe_f (map_f blank ts) a n))
    → WidestOf (more t ts) a m (probe_f (more (map_t blank t) (map_f blank ts)) a m)
unfolding probe_f widened
probe_more_lem t ts a m h k = more_of (want_of (root_t (map_t blank t)).site.style a) t ts a m (ap (λ (z : Site). widen_by (want_of z.style a) t a m) (sym (blank_site t))) h k

probe_none : (a : AvailableSpace) (m : Float) → WidestOf none a m (probe_f none a m)
unfolding probe_f
probe_none a m = record { most = width_f_none a m; nodes = nodes_none }

mutual
  probes_t : (t : Tree Site) (q : ProbeInput) → ProbeOf t q (probe_t (map_t blank t) q)
  probes_t (node s ks) q = rw (map_t_node blank s ks) (probe_node s ks q (is_leaf s.style.kind) refl (λ a. probes_f ks a zero_f))

  probes_f : (ts : Forest Site) (a : AvailableSpace) (m : Float) → WidestOf ts a m (probe_f (map_f blank ts) a m)
  probes_f none a m = rw (map_f_none blank) (probe_none a m)
  probes_f (more t ts) a m = rw (map_f_more blank t ts) (probe_more_lem t ts a m (λ q. probes_t t q) (λ n. probes_f ts a n))

pub probe_dry : (t : Tree Site) (q : ProbeInput) → width_t t q ≡ (probe_t (map_t blank t) q).answer
probe_dry t q = (probes_t t q).answer

pub widest_dry : (ts : Forest Site) (a : AvailableSpace) (m : Float) → width_f ts a m ≡ (probe_f (map_f blank ts) a m).most
widest_dry ts a m = (probes_f ts a m).most

-- ---- the width pass of a page
pub record PassOf (t : Tree Site) (q : LayoutInput) (o : Option Float) (p : Passed) : Type 0 where
  pub found : found_t t q o ≡ p.found
  pub nodes : NodesT t p.nodes

pass_by_lem : (s : Site) (ks : Forest Site) (q : LayoutInput) (o : Option Float) → PassOf (node s ks) q o (pass_by (blank s) (map_f blank ks) o q.parent (probe_f (map_f blank ks) (space_in s.style q.parent q.available) zero_f))
unfolding pass_by found_t found_by blank cleared
pass_by_lem s ks q (Some w) = record { found = refl; nodes = nodes_node _ s ks _ refl refl (nodes_clears ks) }
pass_by_lem s ks q None =
    let h = probes_f ks (space_in s.style q.parent q.available) zero_f in
    record { found = ap (found_width s.style q.parent) h.most; nodes = nodes_node _ s ks _ refl refl h.nodes }

pass_node : (s : Site) (ks : Forest Site) (q : LayoutInput) → PassOf (node s ks) q (known_of s.style (step_a s.style q.parent) q.known).width (width_pass (node (blank s) (map_f blank ks)) q)
unfolding width_pass blank
pass_node s ks q = pass_by_lem s ks q (known_of s.style (step_a s.style q.parent) q.known).width

pub pass_dry : (t : Tree Site) (q : LayoutInput) → PassOf t q (known_of (root_t t).style (step_a (root_t t).style q.parent) q.known).width (width_pass (map_t blank t) q)
pass_dry (node s ks) q = rw (map_t_node blank s ks, root_t_node s ks) (pass_node s ks q)
