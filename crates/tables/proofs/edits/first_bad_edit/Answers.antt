use Rattle.std.specs.Prelude.{None, Some}
use borrow.Author.Rules.{rules}
use borrow.Author.Tests.{lt-ltb, le-ltb}
use native.Mathlib.Omega.{arith}
use mathlib.Core.Path.{◌≡◌, sym, ◌∙◌, ap}
use Prim.Native.Nat.{◌≤◌, ◌-◌, min}
use lib.ListN.{length}
use Rattle.steps.specs.Scan.{scan, first_of}
use Rattle.steps.specs.Noes.{bad_edit}
use Rattle.scans.specs.Scans.{pass, here, over, start}
use Rattle.tables.proofs.edits.first_bad_edit.Goals as goal

pub loop-k-init : goal.loop-k-init
loop-k-init c = let a = c.args in
    (c.smaller-most.ensures, omega arith, start (bad_edit a.edits.now a.n) Some None _)

pub overflow_cast-edits : goal.overflow_cast-edits
overflow_cast-edits c = omega (arith, c.shared_slice_known-in-loop-k-1.given c.loop-k.k)

pub returns-then-n-edits : goal.returns-then-n-edits
unfolding bad_edit
returns-then-n-edits c = let a = c.args in
    let l = c.loop-k in
    sym (ap (first_of (bad_edit a.edits.now a.n)) (sym l.invariant.0) ∙ l.invariant.2 ∙ here (bad_edit a.edits.now a.n) Some None _ l.k (omega arith) (rw (le-ltb _ _ c.if-n-edits.true)))

pub loop-k-preserved : goal.loop-k-preserved
unfolding bad_edit
loop-k-preserved c = let a = c.args in
    let l = c.loop-k in (
      l.invariant.0,
      omega arith,
      l.invariant.2 ∙ pass (bad_edit a.edits.now a.n) Some None _ l.k (omega arith) (rw (lt-ltb _ _ c.if-n-edits.false)),
    )

pub returns : goal.returns
returns c = let a = c.args in
    let l = c.loop-k in
    sym (ap (first_of (bad_edit a.edits.now a.n)) (sym l.invariant.0) ∙ l.invariant.2 ∙ over (bad_edit a.edits.now a.n) Some None _ l.k (omega arith))
