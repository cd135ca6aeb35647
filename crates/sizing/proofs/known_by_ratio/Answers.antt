use Rattle.steps.specs.Sizing.{step_d}
use borrow.Author.Rules.{rules}
use Rattle.sizing.proofs.known_by_ratio.Goals as goal

pub returns : goal.returns
unfolding step_d
returns c = λ s e. rw (e, c.fill_axes.ensures, c.maybe_apply_aspect_ratio.ensures)
