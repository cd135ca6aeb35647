use Rattle.util.specs.Math.{capped}
use borrow.Author.Rules.{rules}
use Rattle.util.proofs.maybe_min.Goals as goal

pub returns-in-None : goal.returns-in-None
unfolding capped
returns-in-None c = rw c.in-None.is

pub returns-in-Some : goal.returns-in-Some
unfolding capped
returns-in-Some c = rw (c.f32_min.ensures, c.in-Some.is)
