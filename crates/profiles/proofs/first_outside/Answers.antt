use Rattle.std.specs.Prelude.{None, Some}
use borrow.Author.Rules.{rules}
use native.Mathlib.Omega.{arith}
use mathlib.Core.Path.{◌≡◌, sym, ap, ◌∙◌}
use mathlib.Core.Bool.{not}
use Prim.Native.Nat.{◌≤◌, ◌-◌}
use Rattle.steps.specs.Scan.{scan}
use Rattle.steps.specs.Page.{nodes_in}
use Rattle.tables.proofs.ScanLaws.{pass, here, over, start}
use Rattle.profile.specs.Profile.{outside}
use Rattle.profiles.proofs.first_outside.Goals as goal

pub loop-i-init : goal.loop-i-init
loop-i-init c = let a = c.args in
    (omega arith, start (outside a.words.now a.numbers.now) Some None (nodes_in a.words.now))

pub returns-then-not-of_profile : goal.returns-then-not-of_profile
unfolding outside
returns-then-not-of_profile c = let a = c.args in
    let l = c.loop-i in
    sym (l.invariant.1 ∙ here (outside a.words.now a.numbers.now) Some None (nodes_in a.words.now) l.i (omega arith) (sym (ap not c.of_profile.ensures) ∙ (ap not c.if-not-of_profile.true)))

pub loop-i-preserved : goal.loop-i-preserved
unfolding outside
loop-i-preserved c = let a = c.args in
    let l = c.loop-i in
    (omega arith, l.invariant.1 ∙ pass (outside a.words.now a.numbers.now) Some None (nodes_in a.words.now) l.i (omega arith) (sym (ap not c.of_profile.ensures) ∙ (ap not c.if-not-of_profile.false)))

pub returns : goal.returns
returns c = let a = c.args in
    let l = c.loop-i in
    sym (l.invariant.1 ∙ over (outside a.words.now a.numbers.now) Some None (nodes_in a.words.now) l.i (omega arith))
