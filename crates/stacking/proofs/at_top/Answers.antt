use Rattle.steps.specs.Stack.{at_top}
use Rattle.stacking.proofs.at_top.Goals as goal

pub returns-then-cursor : goal.returns-then-cursor
unfolding at_top
returns-then-cursor c = rw c.if-cursor.true

pub returns-else-cursor : goal.returns-else-cursor
unfolding at_top
returns-else-cursor c = rw c.if-cursor.false
