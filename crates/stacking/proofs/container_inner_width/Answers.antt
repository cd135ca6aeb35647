use Rattle.steps.specs.Stack.{inner_width}
use borrow.Author.Rules.{rules}
use Rattle.stacking.proofs.container_inner_width.Goals as goal

pub returns : goal.returns
unfolding inner_width
returns c = rw c.horizontal_axis_sum.ensures
