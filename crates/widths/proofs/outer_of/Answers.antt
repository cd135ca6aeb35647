use Rattle.steps.specs.Width.{outer_of}
use borrow.Author.Rules.{rules}
use Rattle.widths.proofs.outer_of.Goals as goal

pub returns : goal.returns
unfolding outer_of
returns c = λ z e. rw (e, c.f32_max.ensures)
