use borrow.Author.Tests.{eq-eqb, ne_eqb}
use Rattle.steps.specs.Noes.{most_of}
use Rattle.numbers.proofs.most_of.Goals as goal

pub returns-then-unit-eq2 : goal.returns-then-unit-eq2
unfolding most_of
returns-then-unit-eq2 c = rw (eq-eqb _ _ c.if-unit-eq2.true)

pub returns-else-unit-eq2 : goal.returns-else-unit-eq2
unfolding most_of
returns-else-unit-eq2 c = rw (ne_eqb _ _ c.if-unit-eq2.false)
