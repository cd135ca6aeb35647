use Rattle.steps.specs.Stack.{asked_width}
use borrow.Author.Rules.{rules}
use Rattle.stacking.proofs.item.asked_width.Goals as goal

pub returns : goal.returns
unfolding asked_width
returns c = rw (c.f32_max.ensures, c.horizontal_axis_sum-2.ensures, c.maybe_clamp.ensures, c.unwrap_or.ensures, c.horizontal_axis_sum.ensures, c.container_inner_width.ensures)
