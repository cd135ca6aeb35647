use Rattle.std.specs.Prelude.{None, Some}
use borrow.Author.Rules.{rules}
use native.Mathlib.Omega.{arith}
use mathlib.Core.Path.{◌≡◌, sym, ◌∙◌, ap}
use Prim.Native.Nat.{◌≤◌, ◌-◌, min}
use lib.ListN.{length}
use Rattle.steps.specs.Scan.{scan, first_of}
use Rattle.tables.proofs.ScanLaws.{pass, here, over, start}
use Rattle.index.specs.Entries.{bad_entry}
use Rattle.index.proofs.list.first_bad_entry.Goals as goal

pub loop-k-init : goal.loop-k-init
loop-k-init c = let a = c.args in
    (c.smaller-most.ensures, omega arith, start (bad_entry a.words.now a.marks.now a.list.now) Some None _)

pub returns-then-bad_entry : goal.returns-then-bad_entry
returns-then-bad_entry c = let a = c.args in
    let l = c.loop-k in
    sym (ap (first_of (bad_entry a.words.now a.marks.now a.list.now)) (sym l.invariant.0) ∙ l.invariant.2 ∙ here (bad_entry a.words.now a.marks.now a.list.now) Some None _ l.k (omega arith) (sym c.bad_entry.ensures ∙ c.if-bad_entry.true))

pub loop-k-preserved : goal.loop-k-preserved
loop-k-preserved c = let a = c.args in
    let l = c.loop-k in
    (l.invariant.0, omega arith, l.invariant.2 ∙ pass (bad_entry a.words.now a.marks.now a.list.now) Some None _ l.k (omega arith) (sym c.bad_entry.ensures ∙ c.if-bad_entry.false))

pub returns : goal.returns
returns c = let a = c.args in
    let l = c.loop-k in
    sym (ap (first_of (bad_entry a.words.now a.marks.now a.list.now)) (sym l.invariant.0) ∙ l.invariant.2 ∙ over (bad_entry a.words.now a.marks.now a.list.now) Some None _ l.k (omega arith))
