use Rattle.steps.specs.Baseline.{at_place}
use borrow.Author.Rules.{rules}
use Rattle.stacking.proofs.baseline_at.Goals as goal

pub returns-in-None : goal.returns-in-None
unfolding at_place
returns-in-None c = λ z. rw c.in-None.is

pub returns-in-Some : goal.returns-in-Some
unfolding at_place
returns-in-Some c = λ z. rw (c.place_y.ensures z, c.in-Some.is)
