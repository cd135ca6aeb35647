-- The size question of a page of the profile is answered as over whole numbers. Assumes nothing.
use Rattle.std.specs.Prelude.{◌≡◌, ◌≤◌}
use Rattle.std.proofs.Common.{arith, lit≤}
use Rattle.tree.specs.Tree.{Tree, Forest, node, map_t, map_f, count_t, depth_t}
use Rattle.steps.specs.Page.{Site, blank}
use Rattle.steps.specs.Probe.{width_pass}
use Rattle.steps.specs.Layout.{fresh}
use Rattle.steps.specs.SizeQuestion.{size_of}
use Rattle.steps.specs.declared.LayoutInput.{LayoutInput}
use Rattle.steps.specs.declared.RequestedAxis.{RequestedAxis}
use Rattle.integers.specs.Styles.{StyleZ}
use Rattle.integers.specs.Widths.{width_pass_z}
use Rattle.integers.specs.Layout.{fresh_z}
use Rattle.integers.specs.Sizes.{size_of_z}
use Rattle.profile.specs.Page.{InProfile, ProfilePage, ProfileQuestion}
use Rattle.exact.specs.Near.{Near, wide, wide_may}
use Rattle.exact.specs.Read.{input_z, site_z, page_z}
use Rattle.exact.specs.Boxes.{step_b_is, step_d_is}
use Rattle.exact.proofs.Widths.{step_a_is}
use Rattle.exact.proofs.Fresh.{pass_is, input_is, fresh_at}
use Rattle.exact.specs.Sizes.{SizeHolds, step_c_is, size_below_is, page_node, root_profile}

whole_size_is : (t : Tree Site) (q : LayoutInput) → ProfilePage t → ProfileQuestion q → count_t t ≤ 1024 → depth_t t ≤ 32 → SizeHolds (fresh t q).out.size (fresh_z (page_z t) (input_z q)).out.size
whole_size_is t q p e u v =
    let o = (fresh_at t q p e u v).out in
    let l = o.low in
    record { width = wide o.is.width (lit≤ tt); height = wide o.is.height (omega arith) }

node_size_is : (s : Site) (ks : Forest Site) (q : LayoutInput) (a : RequestedAxis) (u : Tree StyleZ) → u ≡ node (site_z s) (map_f site_z ks) → InProfile s.style → ProfileQuestion q
    → Near (width_pass (map_t blank (node s ks)) q).found (width_pass_z u (input_z q)).found 267264 → SizeHolds (fresh (node s ks) q).out.size (fresh_z u (input_z q)).out.size
    → SizeHolds (size_of (node s ks) q a) (size_of_z u (input_z q) a)
unfolding size_of size_of_z
node_size_is s ks q a u e p i f h =
    let z = step_a_is s.style q.parent p in
    let b = step_b_is z (input_is 267264 q i (lit≤ tt)).known (lit≤ tt) (lit≤ tt) in
    rw e (step_c_is a (wide_may b.width (lit≤ tt)) (wide_may b.height (lit≤ tt)) (size_below_is a z (step_d_is s.style _ p.ratio b) (rw e at f) (rw e at h)))

-- the size of a page of the profile is that of the integer engine, and refusal 8 does not see it
pub size_is_exact : (t : Tree Site) (q : LayoutInput) (a : RequestedAxis) → ProfilePage t → ProfileQuestion q → count_t t ≤ 1024 → depth_t t ≤ 32 → SizeHolds (size_of t q a) (size_of_z (page_z t) (input_z q) a)
size_is_exact (node s ks) q a p e u v =
    node_size_is s ks q a (page_z (node s ks)) (page_node s ks) (root_profile s ks p) e (pass_is (node s ks) q p e v).found (whole_size_is (node s ks) q p e u v)
