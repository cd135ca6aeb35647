use Rattle.steps.specs.Noes.{bad_ratio}
use borrow.Author.Rules.{rules}
use Rattle.numbers.proofs.bad_ratio.Goals as goal

pub returns-then-x : goal.returns-then-x
unfolding bad_ratio
returns-then-x c = rw c.if-x.true

pub returns : goal.returns
unfolding bad_ratio
returns c = rw (c.in_range.ensures, c.if-x.false)
