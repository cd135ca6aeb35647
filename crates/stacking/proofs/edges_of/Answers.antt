use mathlib.Core.Path.{refl}
use Rattle.steps.specs.Stack.{edges_of}
use Rattle.stacking.proofs.edges_of.Goals as goal

pub returns : goal.returns
unfolding edges_of
returns c = refl
