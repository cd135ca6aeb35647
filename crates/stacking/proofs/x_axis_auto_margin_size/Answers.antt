use Rattle.steps.specs.Stack.{share_of}
use borrow.Author.Rules.{rules}
use Rattle.stacking.proofs.x_axis_auto_margin_size.Goals as goal

pub returns : goal.returns
unfolding share_of
returns c = rw (c.pick-2.ensures, c.pick.ensures)
