use Rattle.asked.specs.Question.{as_profile}
use borrow.Author.Rules.{rules}
use Rattle.asked.proofs.as_profile.Goals as goal

pub returns : goal.returns
unfolding as_profile
returns c = c.flag.ensures
