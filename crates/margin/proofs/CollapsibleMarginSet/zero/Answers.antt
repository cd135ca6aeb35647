use mathlib.Core.Path.{refl}
use Rattle.margin.specs.Margin.{no_margins}
use Rattle.margin.proofs.CollapsibleMarginSet.zero.Goals as goal

pub returns : goal.returns
unfolding no_margins
returns c = refl
