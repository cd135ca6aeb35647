use Rattle.steps.specs.Width.{content_width}
use borrow.Author.Rules.{rules}
use Rattle.widths.proofs.content_width.Goals as goal

pub returns : goal.returns
unfolding content_width
returns c = rw (c.f32_max.ensures, c.horizontal_axis_sum-2.ensures, c.maybe_clamp.ensures, c.horizontal_axis_sum.ensures)
