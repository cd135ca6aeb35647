use Rattle.geometry.specs.Geometry.{plus}
use Rattle.length.specs.Length.{resolved_rect}
use Rattle.steps.specs.Sizing.{step_a, sizing_of, sized_by}
use borrow.Author.Rules.{rules}
use Rattle.sizing.proofs.left_of.Goals as goal

pub returns : goal.returns
unfolding step_a sizing_of sized_by plus resolved_rect
returns c = rw (c.resolve_or_zero-2.ensures, c.border_left.ensures, c.resolve_or_zero.ensures, c.padding_left.ensures)
