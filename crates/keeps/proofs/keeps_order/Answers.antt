use borrow.Author.Rules.{rules}
use native.Mathlib.Omega.{arith}
use mathlib.Core.Path.{◌≡◌, sym, ap, ◌∙◌}
use mathlib.Core.Bool.{true, false, not}
use Prim.Native.Nat.{◌≤◌, ◌-◌}
use Rattle.steps.specs.Scan.{scan}
use Rattle.steps.specs.Page.{nodes_in}
use Rattle.tables.proofs.ScanLaws.{pass, here, over, start}
use Rattle.order.specs.Class.{unsteady, keeps_order}
use Rattle.keeps.proofs.keeps_order.Goals as goal

pub loop-i-init : goal.loop-i-init
loop-i-init c = let a = c.args in
    (omega arith, start (unsteady a.words.now a.numbers.now) (λ _. true) false (nodes_in a.words.now))

pub returns-then-not-steady : goal.returns-then-not-steady
unfolding keeps_order unsteady
returns-then-not-steady c = let a = c.args in
    let l = c.loop-i in
    let e = ap not c.steady.ensures in
    ap not (sym (l.invariant.1 ∙ here (unsteady a.words.now a.numbers.now) (λ _. true) false (nodes_in a.words.now) l.i (omega arith) (sym e ∙ ap not c.if-not-steady.true)))

pub loop-i-preserved : goal.loop-i-preserved
unfolding unsteady
loop-i-preserved c = let a = c.args in
    let l = c.loop-i in
    let e = ap not c.steady.ensures in
    (omega arith, l.invariant.1 ∙ pass (unsteady a.words.now a.numbers.now) (λ _. true) false (nodes_in a.words.now) l.i (omega arith) (sym e ∙ ap not c.if-not-steady.false))

pub returns : goal.returns
unfolding keeps_order
returns c = let a = c.args in
    let l = c.loop-i in
    ap not (sym (l.invariant.1 ∙ over (unsteady a.words.now a.numbers.now) (λ _. true) false (nodes_in a.words.now) l.i (omega arith)))
