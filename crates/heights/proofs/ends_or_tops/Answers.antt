use Rattle.steps.specs.Stack.{at_top}
use borrow.Author.Rules.{rules}
use Rattle.heights.proofs.ends_or_tops.Goals as goal

pub returns-then-frame : goal.returns-then-frame
unfolding at_top
returns-then-frame c = rw c.if-frame.true

pub returns-else-frame : goal.returns-else-frame
unfolding at_top
returns-else-frame c = rw (c.at_top.ensures, c.if-frame.false)
