use Rattle.steps.specs.Stack.{free_of}
use borrow.Author.Rules.{rules}
use Rattle.stacking.proofs.free_x_space.Goals as goal

pub returns : goal.returns
unfolding free_of
returns c = λ z. rw (c.f32_max.ensures, c.horizontal_axis_sum.ensures, c.container_inner_width-inner.ensures)
