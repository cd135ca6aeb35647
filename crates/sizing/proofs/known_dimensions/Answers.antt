use mathlib.Core.Path.{◌∙◌, ap}
use Rattle.steps.specs.Sizing.{known_of, step_d}
use borrow.Author.Rules.{rules}
use Rattle.sizing.proofs.known_dimensions.Goals as goal

pub returns : goal.returns
unfolding known_of
returns c = λ s e. rw (c.known_by_ratio.ensures s e, c.styled_based_known_dimensions.ensures)
