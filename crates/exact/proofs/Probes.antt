-- The width pass of a page of the profile that has no old rows, over the tree. Assumes nothing.
use Rattle.std.specs.Prelude.{◌≡◌, refl, Bool, true, false, ℕ, suc, ◌+◌, ◌*◌, ◌^◌, ◌≤◌, ℤ, Float, Option, None}
use Rattle.std.proofs.Common.{◌∙◌, arith, lit≤}
use Rattle.length.specs.declared.AvailableSpace.{AvailableSpace}
use Rattle.style.specs.Flow.{is_leaf}
use Rattle.tree.specs.Tree.{Tree, Forest, node, none, more, map_t, map_f, depth_t, depth_f}
use Rattle.tree.proofs.Laws.{map_t_node, map_f_more}
use Rattle.steps.specs.Page.{Cell}
use Rattle.steps.specs.Probe.{Widest, block_probe, probe_t, probe_f}
use Rattle.steps.specs.declared.ProbeInput.{ProbeInput}
use Rattle.steps.specs.declared.Want.{Want}
use Rattle.steps.proofs.Clauses.{style_c, probe_t_leaf, probe_t_block, probe_f_more, by_f, leaf_probe, box_probe}
use Rattle.laws.specs.Trees.{AllT, AllF}
use Rattle.whole.specs.Range.{zero_is}
use Rattle.integers.specs.Numbers.{MayZ}
use Rattle.integers.specs.Styles.{AvailableZ, ProbeInputZ}
use Rattle.integers.specs.Widths.{WantZ, WidestZ, block_probe_z, probe_tz, probe_fz}
use Rattle.integers.proofs.Clauses.{leaf_probe_z, box_probe_z, probe_tz_at, by_fz, probe_fz_more}
use Rattle.exact.specs.Near.{Near, wide, larger_is, MayIs, none_is, some_is}
use Rattle.exact.specs.Read.{style_z}
use Rattle.exact.specs.Widths.{AvailableIs, ProbeIs, WantIs, nothing_is, outer_is, probe_is}
use Rattle.exact.proofs.Widths.{leaf_width_is, outer_width_is, want_is, found_is, space_is, probe_known_is}
use Rattle.exact.specs.Probes.{GoodCell, cell_z, ProbedIs, WidestIs, clear_t, clear_f, asked_is, probed, spread, wider_probed, KidsIs, kind_same, widen_is, all_root, asks_anew, TreeIs, style_root, none_are}

block_is : (l : Cell) (ks : Forest Cell) (d : ℕ) {q : ProbeInput} {z : ProbeInputZ} {o : Option Float} {a : MayZ} {r : Widest} {y : WidestZ} {n : ℕ} → GoodCell l → AllF GoodCell ks → ProbeIs n q z → n + 8192 * suc d ≤ 2 ^ 20 → MayIs 5120 o a → WidestIs (spread d) r y
    → ProbedIs (probed (suc d)) (block_probe l q ks o r) (block_probe_z (cell_z l) z (map_f cell_z ks) a y)
unfolding block_probe block_probe_z
block_is l ks d g h p u (some_is w) r = wider_probed (asked_is l _ _ g p w (omega arith) (lit≤ tt) (clear_f ks h)) (omega arith)
block_is l ks d g h p u none_is r = wider_probed (asked_is l _ _ g p (found_is l.site.style None g.child.style r.most (omega arith) (omega arith)) (omega arith) (omega arith) r.nodes) (omega arith)

leaf_probe_is : (l : Cell) (ks : Forest Cell) {q : ProbeInput} {z : ProbeInputZ} {n : ℕ} → GoodCell l → AllF GoodCell ks → ProbeIs n q z → n ≤ 16777215 → ProbedIs 1024 (leaf_probe l q ks) (leaf_probe_z (cell_z l) z (map_f cell_z ks))
unfolding style_z
leaf_probe_is l ks g h p u = asked_is l _ _ g p (leaf_width_is l.site.style g.child.style p.available) u (lit≤ tt) (clear_f ks h)

box_probe_is : (l : Cell) (ks : Forest Cell) (d : ℕ) {q : ProbeInput} {z : ProbeInputZ} {n : ℕ} → GoodCell l → AllF GoodCell ks → KidsIs ks d → ProbeIs n q z → n + 8192 * suc d ≤ 2 ^ 20
    → ProbedIs (probed (suc d)) (box_probe l q ks) (box_probe_z (cell_z l) z (map_f cell_z ks))
box_probe_is l ks d {q} {z} {n} g h f p u =
    block_is l ks d g h p u (probe_known_is l.site.style g.child.style p).width (f _ _ (n + 6144) (space_is l.site.style None g.child.style p.available (omega arith)) (omega arith) _ _ zero_is)

node_is : (l : Cell) (ks : Forest Cell) (q : ProbeInput) (z : ProbeInputZ) (n d : ℕ) → GoodCell l → AllF GoodCell ks → KidsIs ks d → ProbeIs n q z → n + 8192 * suc d ≤ 2 ^ 20
    → ProbedIs (probed (suc d)) (probe_t (node l ks) q) (probe_tz (node (cell_z l) (map_f cell_z ks)) z)
node_is l ks q z n d g h f p u = go (is_leaf l.site.style.kind) refl
  where
    go : (b : Bool) → is_leaf l.site.style.kind ≡ b → ProbedIs (probed (suc d)) (probe_t (node l ks) q) (probe_tz (node (cell_z l) (map_f cell_z ks)) z)
    go true e = rw (probe_t_leaf l ks q e, probe_tz_at (cell_z l) (map_f cell_z ks) z true (kind_same l.site.style ∙ e)) (wider_probed (leaf_probe_is l ks g h p (omega arith)) (omega arith))
    go false e = rw (probe_t_block l ks q e, probe_tz_at (cell_z l) (map_f cell_z ks) z false (kind_same l.site.style ∙ e)) (box_probe_is l ks d g h f p u)

wanted_is : (t : Tree Cell) (ts : Forest Cell) (a : AvailableSpace) (b : AvailableZ) (n d : ℕ) (w : Want) (v : WantZ) → AllT GoodCell t → TreeIs t d → AvailableIs n a b → n + 2048 + 8192 * d ≤ 2 ^ 20
    → ((x : Float) (k : ℤ) → Near x k (spread d) → WidestIs (spread d) (probe_f ts a x) (probe_fz (map_f cell_z ts) b k))
    → (x : Float) (k : ℤ) → Near x k (spread d) → WantIs (n + 2048) w v → WidestIs (spread d) (by_f t ts a x w) (by_fz (map_t cell_z t) (map_f cell_z ts) b k v)
wanted_is t ts a b n d _ _ h f r u g x k p nothing_is = widen_is _ _ _ _ p (clear_t t h) g
wanted_is t ts a b n d _ _ h f r u g x k p (outer_is o) = widen_is _ _ _ _ (larger_is p (wide o (omega arith))) (clear_t t h) g
wanted_is t ts a b n d _ _ h f r u g x k p (probe_is {q} {z} i) =
    let j = f q z (n + 2048) i u in
    let o = outer_width_is (style_c t) a (all_root t h).child.style j.answer (omega arith) (omega arith) in
    rw (asks_anew t q (all_root t h), style_root t) (widen_is _ _ _ _ (larger_is p (wide o (omega arith))) j.nodes g)

more_is : (t : Tree Cell) (ts : Forest Cell) (d : ℕ) → AllT GoodCell t → TreeIs t d → KidsIs ts d → KidsIs (more t ts) d
more_is t ts d h f g a b n r u x k p =
    rw (map_f_more cell_z t ts, probe_f_more t ts a x, probe_fz_more (map_t cell_z t) (map_f cell_z ts) b k, style_root t)
    (wanted_is t ts a b n d _ _ h f r u (g a b n r u) x k p (want_is (style_c t) (all_root t h).child.style r (omega arith)))

tree_node : (l : Cell) (ks : Forest Cell) (d e : ℕ) → GoodCell l → AllF GoodCell ks → KidsIs ks d → suc d ≤ e → TreeIs (node l ks) e
tree_node l ks d e g h f v q z n p u = rw (map_t_node cell_z l ks) (wider_probed (node_is l ks q z n d g h f p (omega arith)) (omega arith))

mutual
  unfolding AllT depth_t

  pub probe_t_lem : (t : Tree Cell) (d : ℕ) → AllT GoodCell t → depth_t t ≤ d → TreeIs t d
  probe_t_lem (node l ks) d h v = tree_node l ks (depth_f ks) d h.0 h.1 (probe_f_lem ks (depth_f ks) h.1 (omega arith)) v

  pub probe_f_lem : (ts : Forest Cell) (d : ℕ) → AllF GoodCell ts → depth_f ts ≤ d → KidsIs ts d
  probe_f_lem none d h v = none_are d
  probe_f_lem (more t ts) d h v = more_is t ts d h.0 (probe_t_lem t d h.0 (omega arith)) (probe_f_lem ts d h.1 (omega arith))
