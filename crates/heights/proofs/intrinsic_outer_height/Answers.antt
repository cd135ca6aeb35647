use Rattle.steps.specs.Height.{step_k}
use borrow.Author.Rules.{rules}
use Rattle.heights.proofs.intrinsic_outer_height.Goals as goal

pub returns : goal.returns
unfolding step_k
returns c = rw (c.f32_max.ensures, c.extra_of-extra.ensures)
