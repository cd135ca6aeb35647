use Rattle.steps.specs.Stack.{line_of}
use borrow.Author.Rules.{rules}
use Rattle.stacking.proofs.line_of.Goals as goal

pub returns : goal.returns
unfolding line_of
returns c = rw (c.pick.ensures, c.resolve.ensures, c.at_top.ensures)
