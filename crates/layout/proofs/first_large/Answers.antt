use Rattle.std.specs.Prelude.{None}
use mathlib.Core.Path.{sym, ◌∙◌}
use native.Mathlib.Omega.{arith}
use Rattle.steps.specs.Scan.{at_node}
use Rattle.steps.specs.Noes.{bad_row}
use Rattle.tables.proofs.ScanLaws.{pass, here, over, start}
use Rattle.layout.proofs.first_large.Goals as goal

pub loop-i-init : goal.loop-i-init
loop-i-init c = (omega arith, start (bad_row c.args.rows.now) at_node None c.args.n)

pub row_large-requires : goal.row_large-requires
row_large-requires c = let w = c.requires in omega (arith, w.long, c.loop-i-test.true)

pub overflow_cast-result : goal.overflow_cast-result
overflow_cast-result c = let w = c.requires in omega (arith, w.few, c.loop-i.invariant.0)

pub returns-then-row_large : goal.returns-then-row_large
returns-then-row_large c = sym (c.loop-i.invariant.1 ∙ here (bad_row c.args.rows.now) at_node None c.args.n c.loop-i.i c.loop-i-test.true (sym c.row_large.ensures ∙ c.if-row_large.true))

pub loop-i-preserved : goal.loop-i-preserved
loop-i-preserved c = (omega (arith, c.loop-i-test.true), c.loop-i.invariant.1 ∙ pass (bad_row c.args.rows.now) at_node None c.args.n c.loop-i.i c.loop-i-test.true (sym c.row_large.ensures ∙ c.if-row_large.false))

pub returns : goal.returns
returns c = sym (c.loop-i.invariant.1 ∙ over (bad_row c.args.rows.now) at_node None c.args.n c.loop-i.i c.loop-i-test.false)
