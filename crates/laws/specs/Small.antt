-- Each probe code that a width pass leaves is below 16, whatever the old rows hold: it fits its four bits.
use Rattle.std.specs.Prelude.{◌≡◌, refl, Bool, true, false, ◌<◌, Float, Option, None, Some}
use Rattle.std.proofs.Common.{arith}
use Rattle.geometry.specs.Geometry.{zero_f}
use Rattle.length.specs.declared.AvailableSpace.{AvailableSpace}
use Rattle.tree.specs.Tree.{Tree, Forest, node, none, more, map_t, map_f}
use Rattle.style.specs.Flow.{is_leaf}
use Rattle.steps.specs.Width.{want_of}
use Rattle.steps.specs.Row.{no_probe}
use Rattle.steps.specs.Page.{Cell, Node, cleared, staying, probed_anew}
use Rattle.steps.specs.Probe.{Widest, answered, probe_t, probe_f, asked, ask_p, block_probe, probe_known, widen, pass_by, width_pass}
use Rattle.steps.specs.declared.Want.{Want}
use Rattle.steps.specs.declared.Want.TheVariants.{Nothing, Outer}
use Rattle.steps.specs.declared.Want.TheVariants as want
use Rattle.steps.specs.declared.ProbeInput.{ProbeInput}
use Rattle.steps.specs.declared.LayoutInput.{LayoutInput}
use Rattle.steps.proofs.Clauses.{style_c, probe_t_leaf, probe_t_block, probe_f_none, probe_f_at, ask_p_stands, ask_p_anew, stay_nodes}
use Rattle.laws.specs.Trees.{AllT, AllF, all-any-T, all-any-F, all-back-T, all-back-F}
use Rattle.laws.specs.Bits.{row_small, note_small}

abbrev pub Small : Node → Type 0
Small n = n.probe.code < 16

cleared_small : (l : Cell) → Small (cleared l)
unfolding cleared no_probe
cleared_small l = omega arith

staying_small : (l : Cell) → Small (staying l)
unfolding staying
staying_small l = row_small l.old

cleared_t : (t : Tree Cell) → AllT Small (map_t cleared t)
cleared_t t = all-back-T cleared Small t (all-any-T (λ (l : Cell). Small (cleared l)) cleared_small t)

cleared_f : (ts : Forest Cell) → AllF Small (map_f cleared ts)
cleared_f ts = all-back-F cleared Small ts (all-any-F (λ (l : Cell). Small (cleared l)) cleared_small ts)

asked_small : (l : Cell) (q : ProbeInput) (a : Float) (us : Forest Node) → AllF Small us → AllT Small (asked l q a us).nodes
unfolding AllT asked probed_anew
asked_small l q a us h = (note_small q a, h)

box_small : (l : Cell) (q : ProbeInput) (ks : Forest Cell) (w : Option Float) (r : Widest) → AllF Small r.nodes → AllT Small (block_probe l q ks w r).nodes
unfolding block_probe
box_small l q ks None r h = asked_small l q _ _ h
box_small l q ks (Some w) r h = asked_small l q w _ (cleared_f ks)

node_small : (l : Cell) (ks : Forest Cell) (q : ProbeInput) → ((a : AvailableSpace) (m : Float) → AllF Small (probe_f ks a m).nodes) → AllT Small (probe_t (node l ks) q).nodes
node_small l ks q h = go (is_leaf l.site.style.kind) refl
  where
    go : (b : Bool) → is_leaf l.site.style.kind ≡ b → AllT Small (probe_t (node l ks) q).nodes
    go true e = rw (probe_t_leaf l ks q e) (asked_small l q _ _ (cleared_f ks))
    go false e = rw (probe_t_block l ks q e) (box_small l q ks (probe_known l.site.style q).width _ (h _ zero_f))

ask_small : (t : Tree Cell) (q : ProbeInput) → AllT Small (probe_t t q).nodes → AllT Small (ask_p t q).nodes
ask_small t q h = go (answered t q) refl
  where
    go : (b : Bool) → answered t q ≡ b → AllT Small (ask_p t q).nodes
    go true e = rw (ask_p_stands t q e, stay_nodes t) (all-back-T staying Small t (all-any-T (λ (l : Cell). Small (staying l)) staying_small t))
    go false e = rw (ask_p_anew t q e) h

none_small : AllF Small none
unfolding AllF
none_small = tt

widen_small : (m : Float) (t : Tree Node) (g : Float → Widest) → AllT Small t → ((k : Float) → AllF Small (g k).nodes) → AllF Small (widen m t g).nodes
unfolding AllF widen
widen_small m t g h r = (h, r m)

more_small : (t : Tree Cell) (ts : Forest Cell) (a : AvailableSpace) (m : Float) → ((q : ProbeInput) → AllT Small (probe_t t q).nodes) → ((k : Float) → AllF Small (probe_f ts a k).nodes)
    → AllF Small (probe_f (more t ts) a m).nodes
more_small t ts a m h r = go (want_of (style_c t) a) refl
  where
    go : (w : Want) → want_of (style_c t) a ≡ w → AllF Small (probe_f (more t ts) a m).nodes
    go Nothing e = rw (probe_f_at t ts a m Nothing e) (widen_small _ _ _ (cleared_t t) r)
    go (Outer v) e = rw (probe_f_at t ts a m (Outer v) e) (widen_small _ _ _ (cleared_t t) r)
    go (want.Probe q) e = rw (probe_f_at t ts a m (want.Probe q) e) (widen_small _ _ _ (ask_small t q (h q)) r)

mutual
  small_t : (t : Tree Cell) (q : ProbeInput) → AllT Small (probe_t t q).nodes
  small_t (node l ks) q = node_small l ks q (λ a m. small_f ks a m)

  small_f : (ts : Forest Cell) (a : AvailableSpace) (m : Float) → AllF Small (probe_f ts a m).nodes
  small_f none a m = rw (probe_f_none a m) none_small
  small_f (more t ts) a m = more_small t ts a m (λ q. small_t t q) (λ k. small_f ts a k)

page_small : (l : Cell) (ks : Forest Cell) (w parent : Option Float) (r : Widest) → AllF Small r.nodes → AllT Small (pass_by l ks w parent r).nodes
unfolding AllT pass_by
page_small l ks None parent r h = (cleared_small l, h)
page_small l ks (Some w) parent r h = (cleared_small l, cleared_f ks)

pub pass_small : (t : Tree Cell) (q : LayoutInput) → AllT Small (width_pass t q).nodes
unfolding width_pass
pass_small (node l ks) q = page_small l ks _ q.parent _ (small_f ks _ zero_f)
