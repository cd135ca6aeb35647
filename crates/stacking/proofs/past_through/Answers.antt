use Rattle.steps.specs.Stack.{past_through}
use borrow.Author.Rules.{rules}
use Rattle.stacking.proofs.past_through.Goals as goal

pub returns : goal.returns
unfolding past_through
returns c = rw (c.next_shown.ensures, c.pick_set.ensures, c.collapse_with_set-4.ensures, c.collapse_with_set-3.ensures, c.collapse_with_set-2.ensures, c.collapse_with_set.ensures)
