use Rattle.steps.specs.Stack.{gap_of}
use borrow.Author.Rules.{rules}
use Rattle.stacking.proofs.gap_of.Goals as goal

pub returns : goal.returns
unfolding gap_of
returns c = rw (c.pick.ensures, c.resolve.ensures, c.collapse_with_set.ensures, c.at_top.ensures)
