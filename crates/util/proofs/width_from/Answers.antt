use Rattle.util.specs.Maybe.{ratio_width}
use borrow.Author.Rules.{rules}
use Rattle.util.proofs.width_from.Goals as goal

pub returns : goal.returns
unfolding ratio_width
returns c = search rules
