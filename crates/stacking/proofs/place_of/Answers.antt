use Rattle.steps.specs.Stack.{place_of}
use borrow.Author.Rules.{rules}
use Rattle.stacking.proofs.place_of.Goals as goal

pub returns : goal.returns
unfolding place_of
returns c = λ z. rw (c.place_y.ensures z, c.place_x.ensures z)
