use Rattle.steps.specs.Sizing.{step_a}
use borrow.Author.Rules.{rules}
use Rattle.sizing.proofs.sizing_without_height_basis.Goals as goal

pub returns : goal.returns
unfolding step_a
returns c = c.sizing_of.ensures
