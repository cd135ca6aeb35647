-- The size question of a page of the profile is answered as over whole numbers. Assumes nothing.
use Rattle.std.specs.Prelude.{◌≡◌, ◌≤◌, ℤ, Float, Option}
use Rattle.std.proofs.Common.{lit≤}
use Rattle.geometry.specs.declared.Size.{Size}
use Rattle.tree.specs.Tree.{Forest, node, map_f}
use Rattle.tree.proofs.Laws.{map_t_node}
use Rattle.steps.specs.Page.{Site}
use Rattle.steps.specs.SizeQuestion.{axes, width_known, step_c, step_g, size_below}
use Rattle.steps.specs.declared.Sizing.{Sizing}
use Rattle.steps.specs.declared.RequestedAxis.{RequestedAxis}
use Rattle.steps.specs.declared.RequestedAxis.TheVariants.{Horizontal, Both}
use Rattle.whole.specs.Range.{zero_is}
use Rattle.integers.specs.Numbers.{MayZ, SizeZ, SizeMay}
use Rattle.integers.specs.Boxes.{BoxZ}
use Rattle.integers.specs.Sizes.{axes_z, width_known_z, step_cz, step_gz, size_below_z}
use Rattle.profile.specs.Page.{InProfile, ProfilePage}
use Rattle.exact.specs.Near.{Near, wide, larger_is, MayIs, none_is, some_is, unwrap_is, wide_may}
use Rattle.exact.specs.Read.{site_z, page_z}
use Rattle.exact.specs.Boxes.{SizeIs, BoxIs, both_down}
use Rattle.exact.specs.Widths.{Holds}

-- a size in both engines
pub record SizeHolds (s : Size Float) (z : SizeZ) : Type 0 where
  pub width : Holds s.width z.width
  pub height : Holds s.height z.height

axes_is : {w h : Float} {a b : ℤ} → Holds w a → Holds h b → SizeHolds (axes w h) (axes_z a b)
unfolding axes axes_z
axes_is p q = record { width = p; height = q }

known_width_is : (a : RequestedAxis) {w : Float} {k : ℤ} {h : Option Float} {b : MayZ} {r : Size Float} {s : SizeZ} → Holds w k → MayIs 16777215 h b → SizeHolds r s → SizeHolds (width_known a w h r) (width_known_z a k b s)
unfolding width_known width_known_z
known_width_is Horizontal p (some_is q) r = axes_is p q
known_width_is Horizontal p none_is r = axes_is p zero_is
known_width_is Both p (some_is q) r = axes_is p q
known_width_is Both p none_is r = r

pub step_c_is : (a : RequestedAxis) {o h : Option Float} {b c : MayZ} {r : Size Float} {s : SizeZ} → MayIs 16777215 o b → MayIs 16777215 h c → SizeHolds r s → SizeHolds (step_c a o h r) (step_cz a b c s)
unfolding step_c step_cz
step_c_is a (some_is p) q r = known_width_is a p q r
step_c_is a none_is q r = r

step_g_is : (a : RequestedAxis) {w p : Float} {k l : ℤ} {h : Option Float} {c : MayZ} {r : Size Float} {s : SizeZ} → Holds w k → Holds p l → MayIs 16777215 h c → SizeHolds r s → SizeHolds (step_g a w p h r) (step_gz a k l c s)
unfolding step_g step_gz
step_g_is Horizontal p q (some_is h) r = axes_is p (larger_is h q)
step_g_is Horizontal p q none_is r = axes_is p zero_is
step_g_is Both p q (some_is h) r = axes_is p (larger_is h q)
step_g_is Both p q none_is r = r

pub size_below_is : (a : RequestedAxis) {z : Sizing} {b : BoxZ} {o : Size (Option Float)} {c : SizeMay} {x : Float} {k : ℤ} {r : Size Float} {s : SizeZ} → BoxIs z b → SizeIs o c 267264 5120 → Near x k 267264 → SizeHolds r s → SizeHolds (size_below a z o x r) (size_below_z a b c k s)
unfolding size_below size_below_z
size_below_is a p q x r = step_g_is a (wide (unwrap_is q.width x) (lit≤ tt)) (wide (both_down p.both) (lit≤ tt)) (wide_may q.height (lit≤ tt)) r

pub page_node : (s : Site) (ks : Forest Site) → page_z (node s ks) ≡ node (site_z s) (map_f site_z ks)
unfolding page_z
page_node s ks = map_t_node site_z s ks

pub root_profile : (s : Site) (ks : Forest Site) → ProfilePage (node s ks) → InProfile s.style
unfolding ProfilePage
root_profile s ks p = p.0
