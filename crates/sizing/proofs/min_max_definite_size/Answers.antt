use Rattle.steps.specs.Sizing.{decided}
use borrow.Author.Rules.{rules}
use Rattle.sizing.proofs.min_max_definite_size.Goals as goal

pub returns-in-None : goal.returns-in-None
unfolding decided
returns-in-None c = rw c.in-None.is

pub returns-in-None-hi : goal.returns-in-None-hi
unfolding decided
returns-in-None-hi c = rw (c.in-None-hi.is, c.in-Some.is)

pub returns-then-b-a : goal.returns-then-b-a
unfolding decided
returns-then-b-a c = rw (c.in-Some.is, c.in-Some-hi.is, c.if-b-a.true)

pub returns-else-b-a : goal.returns-else-b-a
unfolding decided
returns-else-b-a c = rw (c.in-Some.is, c.in-Some-hi.is, c.if-b-a.false)
