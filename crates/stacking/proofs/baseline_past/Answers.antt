use Rattle.std.specs.Option.{option_or}
use Rattle.steps.specs.Baseline.{baseline_past}
use borrow.Author.Rules.{rules}
use Rattle.stacking.proofs.baseline_past.Goals as goal

pub returns-in-None : goal.returns-in-None
unfolding baseline_past
returns-in-None c = λ z. rw (c.baseline_at.ensures z, c.in-None.is)

pub returns-in-Some : goal.returns-in-Some
unfolding baseline_past
returns-in-Some c = λ z. rw c.in-Some.is
