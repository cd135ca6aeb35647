-- The width pass changes neither the page nor the old rows.
use Rattle.std.specs.Prelude.{Option, None, Some}
use mathlib.Core.Path.{◌≡◌, refl, ap, ◌∙◌}
use mathlib.Core.Bool.{Bool, true, false}
use lib.Ieee.{Float}
use Rattle.geometry.specs.Geometry.{zero_f}
use Rattle.length.specs.declared.AvailableSpace.{AvailableSpace}
use Rattle.tree.specs.Tree.{Tree, Forest, node, none, more, map_t, map_f}
use Rattle.tree.proofs.Laws.{map_f_none, map_map_t, map_map_f, map_id_t, map_id_f}
use Rattle.style.specs.Flow.{is_leaf}
use Rattle.steps.specs.Width.{want_of}
use Rattle.steps.specs.Page.{Cell, Node, cleared, staying, probed_anew}
use Rattle.steps.specs.Probe.{Widest, answered, stay, probe_t, probe_f, asked, block_probe, probe_known, space_in, widen, pass_by, width_pass, ask_p}
use Rattle.steps.specs.declared.Want.{Want}
use Rattle.steps.specs.declared.Want.TheVariants.{Nothing, Outer}
use Rattle.steps.specs.declared.Want.TheVariants as want
use Rattle.steps.specs.declared.ProbeInput.{ProbeInput}
use Rattle.steps.specs.declared.LayoutInput.{LayoutInput}
use Rattle.steps.proofs.Clauses.{style_c, ask_p_stands, ask_p_anew, probe_t_leaf, probe_t_block, probe_f_none, probe_f_at}

-- a node without what the pass noted
abbrev pub cell_in : Node → Cell
cell_in n = record { site = n.site; old = n.old }

cleared_cells_t : (t : Tree Cell) → map_t cell_in (map_t cleared t) ≡ t
unfolding cleared
cleared_cells_t t = map_map_t cell_in cleared t ∙ map_id_t t

cleared_cells_f : (ts : Forest Cell) → map_f cell_in (map_f cleared ts) ≡ ts
unfolding cleared
cleared_cells_f ts = map_map_f cell_in cleared ts ∙ map_id_f ts

stay_cells : (t : Tree Cell) → map_t cell_in (stay t).nodes ≡ t
unfolding stay staying
stay_cells t = map_map_t cell_in staying t ∙ map_id_t t

asked_cells : (l : Cell) (q : ProbeInput) (a : Float) (ks : Forest Cell) (us : Forest Node) → map_f cell_in us ≡ ks → map_t cell_in (asked l q a us).nodes ≡ node l ks
unfolding asked probed_anew map_t
asked_cells l q a ks us e = rw e

box_cells : (l : Cell) (q : ProbeInput) (ks : Forest Cell) (w : Option Float) (r : Widest) → map_f cell_in r.nodes ≡ ks → map_t cell_in (block_probe l q ks w r).nodes ≡ node l ks
unfolding block_probe
box_cells l q ks None r h = asked_cells l q _ ks _ h
box_cells l q ks (Some w) r h = asked_cells l q w ks _ (cleared_cells_f ks)

node_cells : (l : Cell) (ks : Forest Cell) (q : ProbeInput) → ((a : AvailableSpace) (m : Float) → map_f cell_in (probe_f ks a m).nodes ≡ ks) → map_t cell_in (probe_t (node l ks) q).nodes ≡ node l ks
node_cells l ks q h = go (is_leaf l.site.style.kind) refl
  where
    go : (b : Bool) → is_leaf l.site.style.kind ≡ b → map_t cell_in (probe_t (node l ks) q).nodes ≡ node l ks
    go true e = rw (probe_t_leaf l ks q e) (asked_cells l q _ ks _ (cleared_cells_f ks))
    go false e = rw (probe_t_block l ks q e) (box_cells l q ks (probe_known l.site.style q).width _ (h (space_in l.site.style None q.available) zero_f))

ask_cells : (t : Tree Cell) (q : ProbeInput) → map_t cell_in (probe_t t q).nodes ≡ t → map_t cell_in (ask_p t q).nodes ≡ t
ask_cells t q h = go (answered t q) refl
  where
    go : (b : Bool) → answered t q ≡ b → map_t cell_in (ask_p t q).nodes ≡ t
    go true e = rw (ask_p_stands t q e) (stay_cells t)
    go false e = rw (ask_p_anew t q e) h

widen_cells : (m : Float) (t : Tree Node) (g : Float → Widest) (u : Tree Cell) (us : Forest Cell) → map_t cell_in t ≡ u → ((k : Float) → map_f cell_in (g k).nodes ≡ us) → map_f cell_in (widen m t g).nodes ≡ more u us
unfolding widen map_f
widen_cells m t g u us e h = rw (e, h m)

more_cells : (t : Tree Cell) (ts : Forest Cell) (a : AvailableSpace) (m : Float) → ((q : ProbeInput) → map_t cell_in (ask_p t q).nodes ≡ t) → ((k : Float) → map_f cell_in (probe_f ts a k).nodes ≡ ts)
    → map_f cell_in (probe_f (more t ts) a m).nodes ≡ more t ts
more_cells t ts a m h r = go (want_of (style_c t) a) refl
  where
    go : (w : Want) → want_of (style_c t) a ≡ w → map_f cell_in (probe_f (more t ts) a m).nodes ≡ more t ts
    go Nothing e = rw (probe_f_at t ts a m Nothing e) (widen_cells _ _ _ t ts (cleared_cells_t t) r)
    go (Outer v) e = rw (probe_f_at t ts a m (Outer v) e) (widen_cells _ _ _ t ts (cleared_cells_t t) r)
    go (want.Probe q) e = rw (probe_f_at t ts a m (want.Probe q) e) (widen_cells _ _ _ t ts (h q) r)

mutual
  pub cells_t : (t : Tree Cell) (q : ProbeInput) → map_t cell_in (probe_t t q).nodes ≡ t
  cells_t (node l ks) q = node_cells l ks q (λ a m. cells_f ks a m)

  pub cells_f : (ts : Forest Cell) (a : AvailableSpace) (m : Float) → map_f cell_in (probe_f ts a m).nodes ≡ ts
  cells_f none a m = rw (probe_f_none a m) (map_f_none cell_in)
  cells_f (more t ts) a m = more_cells t ts a m (λ q. ask_cells t q (cells_t t q)) (λ k. cells_f ts a k)

pub cells_ask : (t : Tree Cell) (q : ProbeInput) → map_t cell_in (ask_p t q).nodes ≡ t
cells_ask t q = ask_cells t q (cells_t t q)

page_cells : (l : Cell) (ks : Forest Cell) (w parent : Option Float) (r : Widest) → map_f cell_in r.nodes ≡ ks → map_t cell_in (pass_by l ks w parent r).nodes ≡ node l ks
unfolding pass_by cleared map_t
page_cells l ks None parent r h = rw h
page_cells l ks (Some w) parent r h = ap (node l) (cleared_cells_f ks)

pub pass_cells : (t : Tree Cell) (q : LayoutInput) → map_t cell_in (width_pass t q).nodes ≡ t
unfolding width_pass
pass_cells (node l ks) q = page_cells l ks _ q.parent _ (cells_f ks _ zero_f)
