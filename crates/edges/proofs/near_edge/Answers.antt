use mathlib.Core.Path.{sym, ap, ◌∙◌}
use Prim.Native.Nat.{ℕ, ◌-◌}
use native.Mathlib.Omega.{arith}
use lib.Ieee.{Float, add, binary32}
use Rattle.steps.specs.Noes.{holds}
use Rattle.edges.specs.Edges.{row_number, outward}
use Rattle.edges.proofs.Outward.{ended, held, passed, runs-over, runs-short, edge_start}
use Rattle.edges.proofs.near_edge.Goals as goal

pub loop-j-init : goal.loop-j-init
loop-j-init c = let a = c.args in (omega arith, edge_start a.words.now a.rows.now a.f a.i _ c.row_number-edge.ensures)

pub loop-j-preserved-then-i-j : goal.loop-j-preserved-then-i-j
loop-j-preserved-then-i-j c = let a = c.args in
    let l = c.loop-j in
    let t = c.loop-j-test.true in
    let y = runs-over a.words.now a.i (l.j - 1) _ (omega arith) c.word.ensures c.if-i-j.true in
    (omega arith, l.invariant.1 ∙ held _ _ l.j l.edge t y ∙ ap (λ (x : Float). outward (holds a.words.now a.i) (λ (k : ℕ). row_number a.rows.now k a.f) (l.j - 1) (add binary32 l.edge x)) (sym c.row_number-edge-then-i-j.ensures))

pub loop-j-preserved : goal.loop-j-preserved
loop-j-preserved c = let a = c.args in
    let l = c.loop-j in
    let t = c.loop-j-test.true in
    let y = runs-short a.words.now a.i (l.j - 1) _ (omega arith) c.word.ensures c.if-i-j.false in
    (omega arith, l.invariant.1 ∙ passed _ _ l.j l.edge t y)

pub returns : goal.returns
returns c = let l = c.loop-j in
    sym (l.invariant.1 ∙ ended _ _ l.j l.edge (omega arith))
