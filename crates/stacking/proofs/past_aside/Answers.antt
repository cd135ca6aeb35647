use Rattle.steps.specs.Stack.{past_aside}
use borrow.Author.Rules.{rules}
use Rattle.stacking.proofs.past_aside.Goals as goal

pub returns : goal.returns
unfolding past_aside
returns c = rw c.next_shown.ensures
