use Rattle.steps.specs.Through.{finished}
use borrow.Author.Rules.{rules}
use Rattle.heights.proofs.finish.Goals as goal

pub returns : goal.returns
unfolding finished
returns c = λ s q f k e h. rw (c.output_of.ensures s q f k e h, c.group_offset-shift.ensures s q f k e h, c.container_outer_height-height.ensures f k h)
