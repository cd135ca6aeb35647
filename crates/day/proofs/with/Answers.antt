use mathlib.Core.Path.{refl}
use Rattle.day.specs.Day.{with_numbers}
use Rattle.day.proofs.with.Goals as goal

pub returns : goal.returns
unfolding with_numbers
returns c = refl
