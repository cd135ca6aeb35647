use Rattle.steps.specs.Stack.{start_of}
use borrow.Author.Rules.{rules}
use Rattle.stacking.proofs.start_of.Goals as goal

pub returns : goal.returns
unfolding start_of
returns c = rw (c.zero-2.ensures, c.zero.ensures)
