use Rattle.std.specs.Prelude.{None}
use borrow.Author.Rules.{rules}
use native.Mathlib.Omega.{arith}
use mathlib.Core.Path.{◌≡◌, sym, ◌∙◌}
use Prim.Native.Nat.{◌≤◌, ◌-◌}
use Rattle.steps.specs.Scan.{scan, at_node}
use Rattle.scans.specs.Scans.{pass, here, over, start}
use Rattle.steps.specs.Page.{nodes_in}
use Rattle.steps.specs.Noes.{bad_style}
use Rattle.codes.proofs.first_bad_style.Goals as goal

pub loop-i-init : goal.loop-i-init
loop-i-init c = let a = c.args in
    (omega arith, start (bad_style a.words.now a.numbers.now) at_node None (nodes_in a.words.now))

pub returns-then-bad_style : goal.returns-then-bad_style
returns-then-bad_style c = let a = c.args in
    let l = c.loop-i in
    sym (l.invariant.1 ∙ here (bad_style a.words.now a.numbers.now) at_node None (nodes_in a.words.now) l.i (omega arith) (sym c.bad_style.ensures ∙ c.if-bad_style.true))

pub loop-i-preserved : goal.loop-i-preserved
loop-i-preserved c = let a = c.args in
    let l = c.loop-i in (
      omega arith,
      l.invariant.1 ∙ pass (bad_style a.words.now a.numbers.now) at_node None (nodes_in a.words.now) l.i (omega arith) (sym c.bad_style.ensures ∙ c.if-bad_style.false),
    )

pub returns : goal.returns
returns c = let a = c.args in
    let l = c.loop-i in
    sym (l.invariant.1 ∙ over (bad_style a.words.now a.numbers.now) at_node None (nodes_in a.words.now) l.i (omega arith))
