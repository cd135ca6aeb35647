use borrow.Author.Rules.{rules}
use native.Mathlib.Omega.{arith}
use mathlib.Core.Path.{◌≡◌, sym, ap, ◌∙◌}
use mathlib.Core.Bool.{true, false, not}
use Prim.Native.Nat.{◌≤◌, ◌-◌}
use Rattle.steps.specs.Scan.{scan}
use Rattle.tables.proofs.ScanLaws.{pass, here, over, start}
use Rattle.profile.specs.Profile.{whole_length}
use Rattle.profiles.specs.Numbers.{broken}
use Rattle.profiles.proofs.some_broken.Goals as goal

pub loop-f-init : goal.loop-f-init
loop-f-init c = let a = c.args in
    (omega arith, start (broken a.u a.v a.numbers.now a.i) (λ _. true) false 28)

pub returns-then-not-whole_length : goal.returns-then-not-whole_length
unfolding broken
returns-then-not-whole_length c = let a = c.args in
    let l = c.loop-f in
    let same = ap not (c.whole_length.ensures ∙ ap whole_length c.length_at.ensures) in
    sym (l.invariant.1 ∙ here (broken a.u a.v a.numbers.now a.i) (λ _. true) false 28 l.f (omega arith) (sym same ∙ (ap not c.if-not-whole_length.true)))

pub loop-f-preserved : goal.loop-f-preserved
unfolding broken
loop-f-preserved c = let a = c.args in
    let l = c.loop-f in
    let same = ap not (c.whole_length.ensures ∙ ap whole_length c.length_at.ensures) in
    (omega arith, l.invariant.1 ∙ pass (broken a.u a.v a.numbers.now a.i) (λ _. true) false 28 l.f (omega arith) (sym same ∙ (ap not c.if-not-whole_length.false)))

pub returns : goal.returns
returns c = let a = c.args in
    let l = c.loop-f in
    sym (l.invariant.1 ∙ over (broken a.u a.v a.numbers.now a.i) (λ _. true) false 28 l.f (omega arith))
