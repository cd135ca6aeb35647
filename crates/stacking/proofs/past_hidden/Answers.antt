use mathlib.Core.Path.{refl}
use Rattle.steps.specs.Stack.{past_hidden}
use borrow.Author.Rules.{rules}
use Rattle.stacking.proofs.past_hidden.Goals as goal

pub returns : goal.returns
unfolding past_hidden
returns c = refl
