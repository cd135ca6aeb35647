use mathlib.Core.Path.{sym, ap, ◌∙◌}
use Prim.Native.Nat.{ℕ}
use native.Mathlib.Omega.{arith}
use lib.Ieee.{Float}
use Rattle.edges.specs.Edges.{row_number}
use Rattle.coarse.specs.Above.{stacked}
use Rattle.coarse.proofs.Above.{climb_start, climb_turn, climb_end}
use Rattle.coarse.proofs.edge.Goals as goal

pub loop-k-init : goal.loop-k-init
loop-k-init c = let a = c.args in
    let d = c.requires.0 in
    (omega arith, climb_start a.rows.now (stacked a.up.now a.d) a.f a.i c.row_number-edge.result c.row_number-edge.ensures)

pub loop-k-preserved : goal.loop-k-preserved
loop-k-preserved c = let a = c.args in
    let l = c.loop-k in
    let t = c.loop-k-test.true in
    let place : ℕ → Float = λ j. row_number a.rows.now j a.f in
    (omega (arith, l.invariant.0), l.invariant.1 ∙ climb_turn place a.up.now l.k l.edge c.row_number-edge-in-loop-k.result (omega arith) (c.row_number-edge-in-loop-k.ensures ∙ ap place c.wide.ensures.0))

pub returns : goal.returns
returns c = let a = c.args in
    let l = c.loop-k in
    sym (l.invariant.1 ∙ climb_end (λ (j : ℕ). row_number a.rows.now j a.f) a.up.now l.k l.edge (omega arith))
