use borrow.Author.Rules.{rules}
use native.Mathlib.Omega.{arith}
use mathlib.Core.Path.{◌≡◌, refl, ◌∙◌}
use mathlib.Core.List.{◌++◌, map}
use Prim.Native.Nat.{◌≤◌, ◌-◌}
use lib.ListN.{length, take, drop, length-set, length-map}
use Rattle.index.specs.Loops.{top_by, bottom_by}
use Rattle.index.proofs.Filling.{put_map, all_put}
use Rattle.index.proofs.put_edges.Goals as goal

pub loop-k-init : goal.loop-k-init
loop-k-init c = let h = c.requires in (omega arith, h.tops, h.bottoms, refl, refl)

pub overflow_cast-i : goal.overflow_cast-i
overflow_cast-i c = omega (arith, c.shared_slice_known-in-loop-k-1.given c.loop-k.k)

pub loop-k-preserved : goal.loop-k-preserved
loop-k-preserved c = let a = c.args in
    let h = c.requires in
    let l = c.loop-k in
    let t = c.loop-k-test.true in
    let x = c.near_edge-top.ensures in (
      omega arith,
      simp length-set l.invariant.1,
      simp length-set l.invariant.2,
      put_map (top_by a.words.now a.rows.now) a.list.now a.tops.now l.tops l.k _ h.tops t l.invariant.3 x,
      put_map (bottom_by a.words.now a.rows.now) a.list.now a.bottoms.now l.bottoms l.k _ h.bottoms t l.invariant.4 (rw (x, c.row_number.ensures)),
    )

pub returns : goal.returns
returns c = let a = c.args in
    let h = c.requires in
    let l = c.loop-k in
    let f = top_by a.words.now a.rows.now in
    let g = bottom_by a.words.now a.rows.now in
    let m = length-map a.list.now f in
    let n = length-map a.list.now g in
    record {
      tops_are = l.invariant.3 ∙ all_put (map f a.list.now) a.tops.now l.k (omega arith) (let z = h.tops in omega arith);
      bottoms_are = l.invariant.4 ∙ all_put (map g a.list.now) a.bottoms.now l.k (omega arith) (let z = h.bottoms in omega arith);
    }
