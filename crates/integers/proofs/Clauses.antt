-- The clauses of the two passes over whole numbers, each as an equation.
use mathlib.Core.Path.{◌≡◌, refl, ap, ◌∙◌}
use mathlib.Core.Bool.{Bool}
use lib.IntN.{ℤ, pos}
use Rattle.style.specs.Flow.{is_leaf}
use Rattle.style.specs.declared.Flow.{Flow}
use Rattle.tree.specs.Tree.{Tree, Forest, node, none, more, map_t, map_f, root_t}
use Rattle.steps.proofs.Clauses.{by_test, by_flow}
use Rattle.whole.specs.More.{max_z}
use Rattle.integers.specs.Styles.{StyleZ, flow_z, AvailableZ, InputZ, ProbeInputZ}
use Rattle.integers.specs.Widths.{WantZ, NothingZ, OuterZ, ProbeZ, want_of_z, outer_width_z, leaf_width_z, NodeZ, cleared_z, ProbedZ, WidestZ, asked_z, block_probe_z, widen_z, space_in_z, probe_known_z, probe_tz, probe_fz}
use Rattle.integers.specs.Stacks.{FrameZ, CursorZ, frame_of_z, start_of_z, question_to_z}
use Rattle.integers.specs.Layout.{LaidZ, StackedZ, leaf_laid_z, block_laid_z, skip_z, aside_z, place_z, lay_tz, lay_fz}

-- the width pass
abbrev pub leaf_probe_z : StyleZ → ProbeInputZ → Forest StyleZ → ProbedZ
leaf_probe_z s q ks = asked_z s q (leaf_width_z s.measure q.available) (map_f cleared_z ks)

abbrev pub box_probe_z : StyleZ → ProbeInputZ → Forest StyleZ → ProbedZ
box_probe_z s q ks = block_probe_z s q ks (probe_known_z s q).width (probe_fz ks (space_in_z s q.available) (pos 0))

probe_tz_by : (s : StyleZ) (ks : Forest StyleZ) (q : ProbeInputZ) → probe_tz (node s ks) q ≡ by_test (is_leaf s.kind) (leaf_probe_z s q ks) (box_probe_z s q ks)
unfolding probe_tz
probe_tz_by s ks q = refl

pub probe_tz_at : (s : StyleZ) (ks : Forest StyleZ) (q : ProbeInputZ) (b : Bool) → is_leaf s.kind ≡ b → probe_tz (node s ks) q ≡ by_test b (leaf_probe_z s q ks) (box_probe_z s q ks)
probe_tz_at s ks q b e = probe_tz_by s ks q ∙ ap (λ (c : Bool). by_test c (leaf_probe_z s q ks) (box_probe_z s q ks)) e

pub probe_fz_none : (a : AvailableZ) (m : ℤ) → probe_fz none a m ≡ record { most = m; nodes = none }
unfolding probe_fz
probe_fz_none a m = refl

-- what step F wants of a child decides
abbrev pub by_fz : Tree StyleZ → Forest StyleZ → AvailableZ → ℤ → WantZ → WidestZ
by_fz t ts a m w =
    elim w [
      | NothingZ ↦ widen_z m (map_t cleared_z t) (probe_fz ts a)
      | OuterZ v ↦ widen_z (max_z m v) (map_t cleared_z t) (probe_fz ts a)
      | ProbeZ q ↦ widen_z (max_z m (outer_width_z (root_t t) (probe_tz t q).answer)) (probe_tz t q).nodes (probe_fz ts a)
    ]

pub probe_fz_more : (t : Tree StyleZ) (ts : Forest StyleZ) (a : AvailableZ) (m : ℤ) → probe_fz (more t ts) a m ≡ by_fz t ts a m (want_of_z (root_t t) a)
unfolding probe_fz
probe_fz_more t ts a m = refl

-- the final pass
abbrev pub stacked_in_z : NodeZ → Forest NodeZ → InputZ → ℤ → LaidZ
stacked_in_z l ks q found = block_laid_z l q (frame_of_z l.style q found) (lay_fz ks (frame_of_z l.style q found) (start_of_z (frame_of_z l.style q found)))

lay_tz_by : (l : NodeZ) (ks : Forest NodeZ) (q : InputZ) (found : ℤ) → lay_tz (node l ks) q found ≡ by_test (is_leaf l.style.kind) (leaf_laid_z l q ks) (stacked_in_z l ks q found)
unfolding lay_tz
lay_tz_by l ks q found = refl

pub lay_tz_at : (l : NodeZ) (ks : Forest NodeZ) (q : InputZ) (found : ℤ) (b : Bool) → is_leaf l.style.kind ≡ b → lay_tz (node l ks) q found ≡ by_test b (leaf_laid_z l q ks) (stacked_in_z l ks q found)
lay_tz_at l ks q found b e = lay_tz_by l ks q found ∙ ap (λ (c : Bool). by_test c (leaf_laid_z l q ks) (stacked_in_z l ks q found)) e

pub lay_fz_none : (f : FrameZ) (c : CursorZ) → lay_fz none f c ≡ record { last = c; rows = none }
unfolding lay_fz
lay_fz_none f c = refl

abbrev pub place_in_z : Tree NodeZ → Forest NodeZ → FrameZ → CursorZ → StackedZ
place_in_z t ts f c = place_z f c (root_t t).style (lay_tz t (question_to_z f (root_t t).style) (pos 0)) (lay_fz ts f)

lay_fz_by : (t : Tree NodeZ) (ts : Forest NodeZ) (f : FrameZ) (c : CursorZ) → lay_fz (more t ts) f c ≡ by_flow (flow_z (root_t t).style) (skip_z c t (lay_fz ts f)) (aside_z f c t (lay_fz ts f)) (place_in_z t ts f c)
unfolding lay_fz
lay_fz_by t ts f c = refl

pub lay_fz_at : (t : Tree NodeZ) (ts : Forest NodeZ) (f : FrameZ) (c : CursorZ) (w : Flow) → flow_z (root_t t).style ≡ w
    → lay_fz (more t ts) f c ≡ by_flow w (skip_z c t (lay_fz ts f)) (aside_z f c t (lay_fz ts f)) (place_in_z t ts f c)
lay_fz_at t ts f c w e = lay_fz_by t ts f c ∙ ap (λ (v : Flow). by_flow v (skip_z c t (lay_fz ts f)) (aside_z f c t (lay_fz ts f)) (place_in_z t ts f c)) e
