use Rattle.util.specs.Maybe.{clamp_opt}
use borrow.Author.Rules.{rules}
use Rattle.util.proofs.OptionF32MaybeMath.maybe_clamp.Goals as goal

pub returns : goal.returns
unfolding clamp_opt
returns c = search rules
