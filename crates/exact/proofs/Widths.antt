-- Step F on a page of the profile: the width pass is that over whole numbers. Assumes nothing.
use Rattle.std.specs.Prelude.{ℕ, ◌+◌, ◌^◌, ◌≤◌, ℤ, Float, Option, None}
use Rattle.std.proofs.Common.{arith, lit≤}
use Rattle.geometry.specs.Geometry.{across}
use Rattle.length.specs.Available.{available_less, definite}
use Rattle.length.specs.declared.AvailableSpace.{AvailableSpace}
use Rattle.style.specs.Flow.{flow_of}
use Rattle.style.specs.declared.Flow.{Flow}
use Rattle.style.specs.declared.Flow.TheVariants.{Gone, Out, In}
use Rattle.style.specs.declared.Style.{Style}
use Rattle.steps.specs.Sizing.{step_a, insets}
use Rattle.steps.specs.Width.{side_margins, outer_width, want_in, want_of, content_width, leaf_width}
use Rattle.steps.specs.Probe.{space_in, found_width, probe_known}
use Rattle.steps.specs.declared.Sizing.{Sizing}
use Rattle.steps.specs.declared.ProbeInput.{ProbeInput}
use Rattle.integers.specs.Styles.{AvailableZ, ProbeInputZ}
use Rattle.integers.specs.Boxes.{box_of_z}
use Rattle.integers.specs.Widths.{side_margins_z, outer_width_z, want_in_z, want_of_z, found_width_z, leaf_width_z, space_in_z, probe_known_z}
use Rattle.profile.specs.Page.{InProfile}
use Rattle.exact.specs.Near.{Near, wide, plus_is, larger_is, none_is, wide_may, clamped_is}
use Rattle.exact.specs.Read.{measure_z, style_z}
use Rattle.exact.specs.Boxes.{pixel_is, SizeIs, BoxIs, both_across, box_both, inset_across, known_is}
use Rattle.exact.proofs.Boxes.{length_or_zero, box_is, insets_is}
use Rattle.exact.specs.Widths.{AvailableIs, definite_is, min_is, max_is, less_is, leaf_clamp, ProbeIs, WantIs, nothing_is, outer_of_is, want_sized_is, flow_is}

pub leaf_width_is : (s : Style) {n : ℕ} {a : AvailableSpace} {b : AvailableZ} → InProfile s → AvailableIs n a b → Near (leaf_width s.measure a) (leaf_width_z (measure_z s.measure) b) 1024
unfolding leaf_width leaf_width_z
leaf_width_is s p (definite_is q) = leaf_clamp q (pixel_is s.measure.least p.least) (pixel_is s.measure.most p.most)
leaf_width_is s p min_is = pixel_is s.measure.least p.least
leaf_width_is s p max_is = pixel_is s.measure.most p.most

margins_is : (s : Style) (b : Option Float) → InProfile s → Near (side_margins s b) (side_margins_z (style_z s)) 2048
unfolding side_margins side_margins_z style_z
margins_is s b p = plus_is (length_or_zero s.margin.left b p.margin.left) (length_or_zero s.margin.right b p.margin.right) (lit≤ tt)

pub step_a_is : (s : Style) (b : Option Float) → InProfile s → BoxIs (step_a s b) (box_of_z (style_z s))
unfolding step_a
step_a_is s b p = box_is s b None p

pub outer_width_is : (s : Style) (a : AvailableSpace) {x : Float} {k : ℤ} {n : ℕ} → InProfile s → Near x k n → 4096 ≤ n → n + 2048 ≤ 2 ^ 24 → Near (outer_width s a x) (outer_width_z (style_z s) k) (n + 2048)
unfolding outer_width outer_width_z
outer_width_is s a p q u v = outer_of_is (step_a_is s None p) (margins_is s (definite a) p) q u v

want_in_is : (w : Flow) (s : Style) {n : ℕ} {a : AvailableSpace} {b : AvailableZ} → InProfile s → AvailableIs n a b → n + 2048 ≤ 2 ^ 24 → WantIs (n + 2048) (want_in w s a) (want_in_z w (style_z s) b)
unfolding want_in want_in_z
want_in_is Gone s p r u = nothing_is
want_in_is Out s p r u = nothing_is
want_in_is In s {n} {a} p r u = want_sized_is (step_a_is s None p) (margins_is s (definite a) p) r u

pub want_is : (s : Style) {n : ℕ} {a : AvailableSpace} {b : AvailableZ} → InProfile s → AvailableIs n a b → n + 2048 ≤ 2 ^ 24 → WantIs (n + 2048) (want_of s a) (want_of_z (style_z s) b)
unfolding want_of want_of_z
want_is s p r u = rw (flow_is s) (want_in_is (flow_of s) s p r u)

-- ---- the width found
found_by_lem : (s : Style) {z : Sizing} {x : Float} {k : ℤ} {n : ℕ} → InProfile s → BoxIs z (box_of_z (style_z s)) → Near x k n → 5120 ≤ n + 6144 → n + 6144 ≤ 2 ^ 24
    → Near (content_width z (insets s z.both) x) (found_width_z (style_z s) k) (n + 6144)
unfolding content_width found_width_z
found_by_lem s p b q u v =
    let i = inset_across (insets_is s p (rw (box_both s) at b.both)) in
    larger_is (clamped_is (plus_is q i v) (wide_may b.min.width u) (wide_may b.max.width u)) (wide (both_across b.both) (omega arith))

pub found_is : (s : Style) (parent : Option Float) {x : Float} {k : ℤ} {n : ℕ} → InProfile s → Near x k n → 5120 ≤ n + 6144 → n + 6144 ≤ 2 ^ 24 → Near (found_width s parent x) (found_width_z (style_z s) k) (n + 6144)
unfolding found_width
found_is s parent p q u v = found_by_lem s p (step_a_is s parent p) q u v

space_by : (s : Style) {z : Sizing} {n : ℕ} {a : AvailableSpace} {b : AvailableZ} → InProfile s → BoxIs z (box_of_z (style_z s)) → AvailableIs n a b → n + 6144 ≤ 2 ^ 24 → AvailableIs (n + 6144) (available_less a (across (insets s z.both))) (space_in_z (style_z s) b)
unfolding space_in_z
space_by s p b q u = less_is q (inset_across (insets_is s p (rw (box_both s) at b.both))) u

pub space_is : (s : Style) (parent : Option Float) {n : ℕ} {a : AvailableSpace} {b : AvailableZ} → InProfile s → AvailableIs n a b → n + 6144 ≤ 2 ^ 24 → AvailableIs (n + 6144) (space_in s parent a) (space_in_z (style_z s) b)
unfolding space_in
space_is s parent p q u = space_by s p (step_a_is s parent p) q u

pub probe_known_is : (s : Style) {q : ProbeInput} {z : ProbeInputZ} {n : ℕ} → InProfile s → ProbeIs n q z → SizeIs (probe_known s q) (probe_known_z (style_z s) z) 5120 5120
unfolding probe_known probe_known_z
probe_known_is s p q = known_is s p (step_a_is s None p) (record { width = none_is; height = q.height }) (lit≤ tt) (lit≤ tt)
