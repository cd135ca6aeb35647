use Rattle.asked.specs.Question.{given}
use Rattle.asked.proofs.option.Goals as goal

pub returns-then-b : goal.returns-then-b
unfolding given
returns-then-b c = rw c.if-b.true

pub returns-else-b : goal.returns-else-b
unfolding given
returns-else-b c = rw c.if-b.false
