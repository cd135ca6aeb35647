use borrow.Author.Rules.{rules}
use Rattle.stacking.specs.Footing.{footing_of}
use Rattle.stacking.proofs.item.footing_of.Goals as goal

pub returns : goal.returns
unfolding footing_of
returns c = search rules
