use Rattle.util.specs.Maybe.{sub_opt}
use borrow.Author.Rules.{rules}
use Rattle.util.proofs.OptionF32MaybeMath.maybe_sub.Goals as goal

pub returns : goal.returns
unfolding sub_opt
returns c = search rules
