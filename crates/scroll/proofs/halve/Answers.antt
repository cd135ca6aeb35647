use mathlib.Core.Path.{◌≡◌, sym, ◌∙◌}
use Prim.Native.Nat.{◌-◌, ◌≤◌}
use native.Mathlib.Omega.{arith}
use lib.ListN.{length}
use borrow.Author.Rules.{rules}
use Rattle.scroll.proofs.HalvingLaws.{enough, over, lower, upper}
use Rattle.scroll.specs.Halving.{beyond, halved}
use Rattle.scroll.proofs.halve.Goals as goal

pub loop-lo-init : goal.loop-lo-init
loop-lo-init c = let n = length c.args.running.now in
    (search rules, search rules, enough (beyond c.args.running.now c.args.y) n (n - 0) 0 n (omega arith) (omega arith))

pub loop-lo-preserved-then-y-running : goal.loop-lo-preserved-then-y-running
loop-lo-preserved-then-y-running c = let a = c.args in
    let l = c.loop-lo in
    let t = c.loop-lo-test.true in
    (search rules, search rules, l.invariant.2 ∙ lower (beyond a.running.now a.y) l.lo l.hi t c.if-y-running.true)

pub loop-lo-preserved : goal.loop-lo-preserved
loop-lo-preserved c = let a = c.args in
    let l = c.loop-lo in
    let t = c.loop-lo-test.true in
    (search rules, search rules, l.invariant.2 ∙ upper (beyond a.running.now a.y) l.lo l.hi t c.if-y-running.false)

pub returns : goal.returns
returns c = let a = c.args in
    let l = c.loop-lo in
    sym (l.invariant.2 ∙ over (beyond a.running.now a.y) l.lo l.hi (omega arith))
