-- The nodes that a width pass leaves have probe codes below 16.
use Rattle.std.specs.Prelude.{Option, None, Some}
use mathlib.Core.Path.{◌≡◌, refl}
use mathlib.Core.Bool.{Bool, true, false}
use Prim.Native.Nat.{◌<◌}
use native.Mathlib.Omega.{arith}
use lib.Ieee.{Float}
use Rattle.geometry.specs.Geometry.{zero_f}
use Rattle.length.specs.declared.AvailableSpace.{AvailableSpace}
use Rattle.tree.specs.Tree.{Tree, Forest, node, none, more, map_t, map_f, root_t}
use Rattle.style.specs.Flow.{is_leaf}
use Rattle.steps.specs.Width.{want_of}
use Rattle.steps.specs.Row.{no_probe, probe_note, probe_of}
use Rattle.steps.specs.Page.{Cell, Node, cleared, staying, probed_anew}
use Rattle.steps.specs.Probe.{answered, probe_known, space_in, asked, probe_t, probe_f, ask_p, width_pass, Widest, block_probe, pass_by}
use Rattle.steps.specs.declared.LayoutInput.{LayoutInput}
use Rattle.steps.specs.declared.ProbeInput.{ProbeInput}
use Rattle.steps.specs.declared.Want.{Want}
use Rattle.steps.specs.declared.Want.TheVariants.{Nothing, Outer}
use Rattle.steps.specs.declared.Want.TheVariants as want
use Rattle.steps.proofs.Clauses.{probe_t_leaf, ask_p_stands, ask_p_anew, probe_f_none, widest_in, probe_t_block, stay_nodes}
use Rattle.steps.proofs.Codes.{code_small}
use Rattle.probing.specs.Contract.{widened_by, widened_t}
use Rattle.probing.proofs.Clauses.{widened_more}
use Rattle.probing.proofs.Marked.{CodesT, CodesF}

-- labels changed one by one
module _ (f : Cell → Node) (small : (l : Cell) → (f l).probe.code < 16) where
  mutual
    unfolding CodesT map_t

    codes-mapT : (t : Tree Cell) → CodesT (map_t f t)
    codes-mapT (node l ks) = (small l, codes-mapF ks)

    codes-mapF : (ts : Forest Cell) → CodesF (map_f f ts)
    codes-mapF none = tt
    codes-mapF (more t ts) = (codes-mapT t, codes-mapF ts)

cleared_small : (l : Cell) → (cleared l).probe.code < 16
unfolding cleared no_probe
cleared_small l = omega arith

staying_small : (l : Cell) → (staying l).probe.code < 16
unfolding staying probe_of
staying_small l = omega arith

cleared_t : (t : Tree Cell) → CodesT (map_t cleared t)
cleared_t t = codes-mapT cleared cleared_small t

cleared_f : (ts : Forest Cell) → CodesF (map_f cleared ts)
cleared_f ts = codes-mapF cleared cleared_small ts

-- a probe
codes_asked : (l : Cell) (q : ProbeInput) (w : Float) (us : Forest Node) → CodesF us → CodesT (asked l q w us).nodes
unfolding asked probed_anew probe_note CodesT
codes_asked l q w us h = (code_small q, h)

codes_block : (l : Cell) (ks : Forest Cell) (q : ProbeInput) (k : Option Float) (r : Widest) → CodesF r.nodes → CodesT (block_probe l q ks k r).nodes
unfolding block_probe
codes_block l ks q (Some w) r h = codes_asked l q w (map_f cleared ks) (cleared_f ks)
codes_block l ks q None r h = codes_asked l q _ r.nodes h

codes_node : (l : Cell) (ks : Forest Cell) (q : ProbeInput) (b : Bool) → is_leaf l.site.style.kind ≡ b → CodesF (widest_in l ks q).nodes → CodesT (probe_t (node l ks) q).nodes
codes_node l ks q true e h = rw (probe_t_leaf l ks q e) (codes_asked l q _ (map_f cleared ks) (cleared_f ks))
codes_node l ks q false e h = rw (probe_t_block l ks q e) (codes_block l ks q (probe_known l.site.style q).width (widest_in l ks q) h)

codes_ask : (t : Tree Cell) (q : ProbeInput) (b : Bool) → answered t q ≡ b → CodesT (probe_t t q).nodes → CodesT (ask_p t q).nodes
codes_ask t q true e h = rw (ask_p_stands t q e, stay_nodes t) (codes-mapT staying staying_small t)
codes_ask t q false e h = rw (ask_p_anew t q e) h

codes_by : (w : Want) (m : Float) (a : AvailableSpace) (t : Tree Cell) → ((q : ProbeInput) → CodesT (probe_t t q).nodes) → CodesT (widened_by w m a t).nodes
unfolding widened_by
codes_by Nothing m a t h = cleared_t t
codes_by (Outer o) m a t h = cleared_t t
codes_by (want.Probe q) m a t h = codes_ask t q (answered t q) refl (h q)

codes_one : (m : Float) (a : AvailableSpace) (t : Tree Cell) → ((q : ProbeInput) → CodesT (probe_t t q).nodes) → CodesT (widened_t m a t).nodes
unfolding widened_t
codes_one m a t h = codes_by (want_of (root_t t).site.style a) m a t h

codes_none : CodesF none
unfolding CodesF
codes_none = tt

codes_more : (t : Tree Node) (ts : Forest Node) → CodesT t → CodesF ts → CodesF (more t ts)
unfolding CodesF
codes_more t ts h k = (h, k)

mutual
  codes_probe_t : (t : Tree Cell) (q : ProbeInput) → CodesT (probe_t t q).nodes
  codes_probe_t (node l ks) q = codes_node l ks q (is_leaf l.site.style.kind) refl (codes_probe_f ks (space_in l.site.style None q.available) zero_f)

  codes_probe_f : (ts : Forest Cell) (a : AvailableSpace) (m : Float) → CodesF (probe_f ts a m).nodes
  codes_probe_f none a m = rw (probe_f_none a m) codes_none
  codes_probe_f (more t ts) a m = rw (widened_more t ts a m) (codes_more _ _ (codes_one m a t (λ q. codes_probe_t t q)) (codes_probe_f ts a (widened_t m a t).most))

-- the page
codes_page : (l : Cell) (ks : Forest Cell) (k parent : Option Float) (r : Widest) → CodesF r.nodes → CodesT (pass_by l ks k parent r).nodes
unfolding pass_by CodesT
codes_page l ks (Some w) parent r h = (cleared_small l, cleared_f ks)
codes_page l ks None parent r h = (cleared_small l, h)

pub codes_pass : (t : Tree Cell) (q : LayoutInput) → CodesT (width_pass t q).nodes
unfolding width_pass
codes_pass (node l ks) q = codes_page l ks _ q.parent _ (codes_probe_f ks _ zero_f)
