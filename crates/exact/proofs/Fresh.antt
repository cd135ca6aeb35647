-- The theorem on trees: a layout of a page of the profile is that over whole numbers, row by row. Assumes nothing.
use Rattle.std.specs.Prelude.{◌≡◌, refl, true, ℕ, ◌+◌, ◌≤◌, Option, Float}
use Rattle.std.proofs.Common.{arith, lit≤}
use Rattle.length.specs.Available.{definite}
use Rattle.length.specs.declared.AvailableSpace.{AvailableSpace}
use Rattle.length.specs.declared.AvailableSpace.TheVariants.{Definite, MinContent, MaxContent}
use Rattle.tree.specs.Tree.{Tree, Forest, node, map_t, map_f, count_t, count_f, depth_t, depth_f}
use Rattle.tree.proofs.Laws.{depth_map_f}
use Rattle.steps.specs.Page.{Site, Cell, Node, blank, cleared}
use Rattle.steps.specs.Probe.{Widest, pass_by, width_pass}
use Rattle.steps.specs.Layout.{relaid, fresh}
use Rattle.steps.specs.declared.LayoutInput.{LayoutInput}
use Rattle.laws.specs.Trees.{AllF}
use Rattle.whole.specs.Range.{zero_is}
use Rattle.integers.specs.Numbers.{MayZ}
use Rattle.integers.specs.Styles.{AvailableZ}
use Rattle.integers.specs.Widths.{NodeZ, cleared_z, WidestZ, pass_by_z, width_pass_z}
use Rattle.integers.specs.Layout.{fresh_z}
use Rattle.profile.specs.Profile.{whole_option}
use Rattle.profile.specs.Page.{InProfile, ProfilePage, ProfileQuestion}
use Rattle.exact.specs.Near.{wide, MayIs, none_is, some_is, wide_may}
use Rattle.exact.specs.Read.{available_z, input_z, page_z}
use Rattle.exact.specs.Boxes.{pixel_is, known_is}
use Rattle.exact.proofs.Boxes.{option_is}
use Rattle.exact.specs.Widths.{AvailableIs, definite_is, min_is, max_is}
use Rattle.exact.proofs.Widths.{step_a_is, found_is, space_is}
use Rattle.exact.specs.Probes.{GoodCell, cell_z, NodeIs, WidestIs, clear_f, spread}
use Rattle.exact.proofs.Probes.{probe_f_lem}
use Rattle.exact.specs.Frames.{InputIs}
use Rattle.exact.specs.Layout.{LaidAt, TreeLays}
use Rattle.exact.proofs.LayoutLaws.{node_lays, lay_f_lem}
use Rattle.exact.specs.Fresh.{PageIs, PassedIs, asked_available, all_good, root_clear, blank_style, cells_page, count_nodes, depth_nodes}

pass_by_is : (l : Cell) (ks : Forest Cell) (parent : Option Float) (d : ℕ) {o : Option Float} {a : MayZ} {r : Widest} {y : WidestZ} → InProfile l.site.style → NodeIs (cleared l) (cleared_z (cell_z l)) → AllF GoodCell ks → d ≤ 31 → MayIs 5120 o a → WidestIs (spread d) r y
    → PassedIs (pass_by l ks o parent r) (pass_by_z (cell_z l) (map_f cell_z ks) a y)
unfolding pass_by pass_by_z PageIs
pass_by_is l ks parent d p n h u (some_is w) r = record { found = zero_is; nodes = (n, clear_f ks h) }
pass_by_is l ks parent d p n h u none_is r = record { found = wide (found_is l.site.style parent p r.most (omega arith) (omega arith)) (omega arith); nodes = (n, r.nodes) }

available_is : (a : AvailableSpace) → whole_option (definite a) ≡ true → AvailableIs 1024 a (available_z a)
unfolding definite
available_is (Definite x) e = definite_is (pixel_is x e)
available_is MinContent e = min_is
available_is MaxContent e = max_is

pub input_is : (w : ℕ) (q : LayoutInput) → ProfileQuestion q → 5120 ≤ w → InputIs w q (input_z q)
unfolding input_z
input_is w q p u =
    record {
      known = record { width = wide_may (option_is q.known.width p.width) (omega arith); height = wide_may (option_is q.known.height p.height) (lit≤ tt) };
      parent = wide_may (option_is q.parent p.parent) (lit≤ tt);
      basis = wide_may (option_is q.basis p.basis) (lit≤ tt);
      definite = refl;
      available = available-wide (available_is q.available p.available) (omega arith);
      start = refl;
      end = refl;
      nested = refl;
    }
  where
    available-wide : {n m : ℕ} {a : AvailableSpace} {b : AvailableZ} → AvailableIs n a b → n ≤ m → AvailableIs m a b
    available-wide (definite_is p) u = definite_is (wide p u)
    available-wide min_is u = min_is
    available-wide max_is u = max_is

pass_node : (l : Cell) (ks : Forest Cell) (q : LayoutInput) → InProfile l.site.style → NodeIs (cleared l) (cleared_z (cell_z l)) → AllF GoodCell ks → ProfileQuestion q → depth_f ks ≤ 31
    → PassedIs (width_pass (node l ks) q) (width_pass_z (node (cell_z l) (map_f cell_z ks)) (input_z q))
unfolding width_pass width_pass_z
pass_node l ks q p n h e u =
    let s = l.site.style in
    let i = input_is 5120 q e (lit≤ tt) in
    let a = space_is s q.parent p (available_is q.available e.available) (lit≤ tt) in
    pass_by_is l ks q.parent (depth_f ks) p n h u (known_is s p (step_a_is s q.parent p) i.known (lit≤ tt) (lit≤ tt)).width
    (rw (asked_available q) (probe_f_lem ks (depth_f ks) h (omega arith) _ _ (1024 + 6144) a (omega arith) _ _ zero_is))

-- ---- both passes
lay_page : (t : Tree Node) (u : Tree NodeZ) → PageIs t u → count_t t ≤ 1024 → depth_t t ≤ 32 → TreeLays t u (count_t t) (depth_t t)
unfolding PageIs count_t depth_t
lay_page (node l ks) (node y us) p a b =
    node_lays l y ks us (count_f ks) (depth_f ks) p.0 p.1 (lay_f_lem ks us (depth_f ks) p.1 (omega arith) (omega arith) (omega arith)) (omega arith) (omega arith)

pass_root : (s : Site) (ks : Forest Site) (q : LayoutInput) → ProfilePage (node s ks) → ProfileQuestion q → depth_t (node s ks) ≤ 32 → PassedIs (width_pass (map_t blank (node s ks)) q) (width_pass_z (map_t cell_z (map_t blank (node s ks))) (input_z q))
unfolding ProfilePage depth_t map_t
pass_root s ks q p e u =
    let v = depth_map_f blank ks in
    pass_node (blank s) (map_f blank ks) q (blank_style s p.0) (root_clear s p.0) (all_good ks p.1) e (omega arith)

pub pass_is : (t : Tree Site) (q : LayoutInput) → ProfilePage t → ProfileQuestion q → depth_t t ≤ 32 → PassedIs (width_pass (map_t blank t) q) (width_pass_z (page_z t) (input_z q))
pass_is (node s ks) q p e u = rw (← cells_page (node s ks)) (pass_root s ks q p e u)

pub fresh_at : (t : Tree Site) (q : LayoutInput) → ProfilePage t → ProfileQuestion q → count_t t ≤ 1024 → depth_t t ≤ 32 → LaidAt 267264 (count_t t) (depth_t t) (fresh t q) (fresh_z (page_z t) (input_z q))
unfolding fresh relaid fresh_z
fresh_at t q p e u v =
    let n = width_pass (map_t blank t) q in
    let a = pass_is t q p e v in
    let c = count_nodes t q in
    let d = depth_nodes t q in
    rw (c, d) at (lay_page n.nodes (width_pass_z (page_z t) (input_z q)).nodes a.nodes (omega arith) (omega arith) 267264 q (input_z q) n.found (width_pass_z (page_z t) (input_z q)).found (input_is 267264 q e (lit≤ tt)) a.found (lit≤ tt) (omega arith))
