use mathlib.Core.Path.{refl}
use Rattle.margin.specs.Margin.{sum_of}
use Rattle.margin.proofs.CollapsibleMarginSet.resolve.Goals as goal

pub returns : goal.returns
unfolding sum_of
returns c = refl
