use Rattle.steps.specs.Sizing.{known_axis}
use borrow.Author.Rules.{rules}
use Rattle.sizing.proofs.known_axis.Goals as goal

pub returns : goal.returns
unfolding known_axis
returns c = rw (c.maybe_max.ensures, c.or-2.ensures, c.or.ensures, c.maybe_clamp.ensures, c.min_max_definite_size.ensures)
