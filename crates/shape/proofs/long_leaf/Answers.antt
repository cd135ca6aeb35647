use borrow.Author.Tests.{eq-eqb, ne_eqb}
use borrow.Author.Rules.{rules}
use Rattle.shape.proofs.long_leaf.Goals as goal

pub returns-then-code-eq1 : goal.returns-then-code-eq1
returns-then-code-eq1 c = rw (← c.code.ensures, eq-eqb _ _ c.if-code-eq1.true)

pub returns-else-code-eq1 : goal.returns-else-code-eq1
returns-else-code-eq1 c = rw (← c.code.ensures, ne_eqb _ _ c.if-code-eq1.false)
