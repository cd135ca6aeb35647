use Rattle.steps.specs.SizeQuestion.{axes}
use mathlib.Core.Path.{refl}
use Rattle.measure.proofs.axes.Goals as goal

pub returns : goal.returns
unfolding axes
returns c = refl
