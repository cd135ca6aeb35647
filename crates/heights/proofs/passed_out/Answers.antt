use Rattle.steps.specs.Through.{passed_out}
use borrow.Author.Rules.{rules}
use Rattle.heights.proofs.passed_out.Goals as goal

pub returns-then-passed : goal.returns-then-passed
unfolding passed_out
returns-then-passed c = rw c.if-passed.true

pub returns-else-passed : goal.returns-else-passed
unfolding passed_out
returns-else-passed c = rw (c.from_margin.ensures, c.if-passed.false)
