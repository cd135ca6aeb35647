use Rattle.util.specs.Math.{floored}
use borrow.Author.Rules.{rules}
use Rattle.util.proofs.maybe_max.Goals as goal

pub returns-in-None : goal.returns-in-None
unfolding floored
returns-in-None c = rw c.in-None.is

pub returns-in-Some : goal.returns-in-Some
unfolding floored
returns-in-Some c = rw (c.f32_max.ensures, c.in-Some.is)
