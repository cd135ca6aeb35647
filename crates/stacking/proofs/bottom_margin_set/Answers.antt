use Rattle.steps.specs.Stack.{bottom_margins}
use borrow.Author.Rules.{rules}
use Rattle.stacking.proofs.bottom_margin_set.Goals as goal

pub returns : goal.returns
unfolding bottom_margins
returns c = λ z. rw c.collapse_with_margin.ensures
