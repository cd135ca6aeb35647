use Rattle.steps.specs.Stack.{place_y}
use borrow.Author.Rules.{rules}
use Rattle.stacking.proofs.place_y.Goals as goal

pub returns : goal.returns
unfolding place_y
returns c = λ z. rw (c.gap_of-gap.ensures, c.top_margin_set.ensures z)
