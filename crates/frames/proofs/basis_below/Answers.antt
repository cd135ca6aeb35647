use Rattle.steps.specs.HeightBasis.{basis_below}
use borrow.Author.Rules.{rules}
use Rattle.frames.proofs.basis_below.Goals as goal

pub returns : goal.returns
unfolding basis_below
returns c = rw (c.maybe_sub.ensures, c.vertical_axis_sum.ensures, c.definite_of.ensures)
