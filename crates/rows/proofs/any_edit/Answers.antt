use mathlib.Core.Path.{◌≡◌, refl, sym, ap, ◌∙◌}
use Prim.Native.Nat.{ℕ, ◌+◌, ◌-◌, ◌≤◌}
use native.Mathlib.Omega.{arith}
use borrow.Author.Rules.{rules}
use lib.ListN.{length, drop}
use Rattle.rows.specs.Edited.{touched}
use Rattle.rows.proofs.Edits.{touched_here, touched_pass, touched_over}
use Rattle.rows.proofs.any_edit.Goals as goal

pub returns-then-in_run : goal.returns-then-in_run
returns-then-in_run c = sym (c.loop-e.invariant ∙ touched_here c.args.edits.now _ _ _ c.loop-e-test.true (sym c.in_run.ensures ∙ c.if-in_run.true))

pub loop-e-preserved : goal.loop-e-preserved
loop-e-preserved c = c.loop-e.invariant ∙ touched_pass c.args.edits.now _ _ _ c.loop-e-test.true (sym c.in_run.ensures ∙ c.if-in_run.false)

pub returns : goal.returns
returns c = sym (c.loop-e.invariant ∙ touched_over c.args.edits.now _ _ _ c.loop-e-test.false)
