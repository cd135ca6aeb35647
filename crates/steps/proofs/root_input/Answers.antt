use mathlib.Core.Path.{refl}
use Rattle.steps.specs.Question.{root_input}
use borrow.Author.Rules.{rules}
use Rattle.steps.proofs.root_input.Goals as goal

pub returns : goal.returns
unfolding root_input
returns c = refl
