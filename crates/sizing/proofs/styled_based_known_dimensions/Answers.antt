use Rattle.steps.specs.Sizing.{step_b}
use borrow.Author.Rules.{rules}
use Rattle.sizing.proofs.styled_based_known_dimensions.Goals as goal

pub returns : goal.returns
unfolding step_b
returns c = rw (c.known_axis-2.ensures, c.vertical_axis_sum.ensures, c.known_axis.ensures, c.horizontal_axis_sum.ensures)
