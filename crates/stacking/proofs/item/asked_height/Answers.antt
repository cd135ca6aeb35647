use Rattle.steps.specs.Stack.{asked_height}
use borrow.Author.Rules.{rules}
use Rattle.stacking.proofs.item.asked_height.Goals as goal

pub returns : goal.returns
unfolding asked_height
returns c = rw (c.maybe_max.ensures, c.vertical_axis_sum.ensures, c.maybe_clamp.ensures)
