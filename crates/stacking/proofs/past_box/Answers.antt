use Rattle.steps.specs.Stack.{past_box}
use borrow.Author.Rules.{rules}
use Rattle.stacking.proofs.past_box.Goals as goal

pub returns : goal.returns
unfolding past_box
returns c = rw (c.next_shown.ensures, c.pick_set.ensures, c.collapse_with_set.ensures, c.gap_of-gap.ensures)
