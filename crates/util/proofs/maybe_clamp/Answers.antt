use Rattle.util.specs.Math.{clamped}
use borrow.Author.Rules.{rules}
use Rattle.util.proofs.maybe_clamp.Goals as goal

pub returns : goal.returns
unfolding clamped
returns c = rw (c.maybe_max.ensures, c.maybe_min.ensures)
