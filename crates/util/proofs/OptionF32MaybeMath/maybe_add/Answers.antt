use Rattle.util.specs.Maybe.{add_opt}
use borrow.Author.Rules.{rules}
use Rattle.util.proofs.OptionF32MaybeMath.maybe_add.Goals as goal

pub returns : goal.returns
unfolding add_opt
returns c = search rules
