use Rattle.util.specs.Maybe.{ratio_height}
use borrow.Author.Rules.{rules}
use Rattle.util.proofs.height_from.Goals as goal

pub returns : goal.returns
unfolding ratio_height
returns c = search rules
