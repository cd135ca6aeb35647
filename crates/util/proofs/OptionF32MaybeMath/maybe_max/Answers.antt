use Rattle.util.specs.Maybe.{floor_opt}
use borrow.Author.Rules.{rules}
use Rattle.util.proofs.OptionF32MaybeMath.maybe_max.Goals as goal

pub returns : goal.returns
unfolding floor_opt
returns c = search rules
