use Rattle.steps.specs.Height.{held_open}
use borrow.Author.Rules.{rules}
use Rattle.heights.proofs.height_constrained_by_min_height.Goals as goal

pub returns-in-None : goal.returns-in-None
unfolding held_open
returns-in-None c = rw c.in-None.is

pub returns-then-m : goal.returns-then-m
unfolding held_open
returns-then-m c = rw (c.in-Some.is, c.if-m.true)

pub returns-else-m : goal.returns-else-m
unfolding held_open
returns-else-m c = rw (c.in-Some.is, c.if-m.false)
