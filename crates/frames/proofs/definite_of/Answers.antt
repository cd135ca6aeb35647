use Rattle.steps.specs.HeightBasis.{definite_of}
use borrow.Author.Rules.{rules}
use Rattle.frames.proofs.definite_of.Goals as goal

pub returns-then-q : goal.returns-then-q
unfolding definite_of
returns-then-q c = rw (← c.is_some.ensures, c.if-is_some.true, c.if-q.true)

pub returns-then-is_some : goal.returns-then-is_some
unfolding definite_of
returns-then-is_some c = rw (← c.is_some.ensures, c.if-is_some.true, c.if-q.false)

pub returns : goal.returns
unfolding definite_of
returns c = rw (← c.is_some.ensures, c.if-is_some.false)
