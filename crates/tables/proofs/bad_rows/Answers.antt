use borrow.Author.Tests.{eq-eqb, ne_eqb}
use Rattle.steps.specs.Noes.{bad_rows}
use borrow.Author.Rules.{rules}
use Rattle.tables.proofs.bad_rows.Goals as goal

pub returns-then-rows-n : goal.returns-then-rows-n
unfolding bad_rows
returns-then-rows-n c = rw (ne_eqb _ _ c.if-rows-n.true)

pub returns : goal.returns
unfolding bad_rows
returns c = rw (eq-eqb _ _ c.if-rows-n.false)
