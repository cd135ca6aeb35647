use Rattle.heights.specs.Leaves.{stack_leaves}
use borrow.Author.Rules.{rules}
use Rattle.heights.proofs.stack_output.Goals as goal

pub returns : goal.returns
unfolding stack_leaves
returns c = rw (c.vertical_axis_sum.ensures, c.intrinsic_outer_height.ensures)
