use mathlib.Core.Path.{ap}
use Rattle.heights.specs.Leaves.{stack_leaves}
use Rattle.steps.specs.Height.{step_k, step_l}
use borrow.Author.Rules.{rules}
use Rattle.heights.proofs.container_outer_height.Goals as goal

pub returns : goal.returns
unfolding step_l stack_leaves
returns c = λ f k e. rw (c.f32_max.ensures, c.unwrap_or.ensures, c.maybe_clamp.ensures, e)
