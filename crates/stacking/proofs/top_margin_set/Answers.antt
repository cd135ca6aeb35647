use Rattle.steps.specs.Stack.{top_margins}
use borrow.Author.Rules.{rules}
use Rattle.stacking.proofs.top_margin_set.Goals as goal

pub returns : goal.returns
unfolding top_margins
returns c = λ z. rw c.collapse_with_margin.ensures
