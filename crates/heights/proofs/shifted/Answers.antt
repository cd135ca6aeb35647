use Rattle.steps.specs.Baseline.{shifted}
use borrow.Author.Rules.{rules}
use Rattle.heights.proofs.shifted.Goals as goal

pub returns-in-None : goal.returns-in-None
unfolding shifted
returns-in-None c = rw c.in-None.is

pub returns-in-Some : goal.returns-in-Some
unfolding shifted
returns-in-Some c = rw (c.maybe_add.ensures, c.in-Some.is)
