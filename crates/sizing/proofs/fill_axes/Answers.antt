use Rattle.steps.specs.Sizing.{filled}
use borrow.Author.Rules.{rules}
use Rattle.sizing.proofs.fill_axes.Goals as goal

pub returns : goal.returns
unfolding filled
returns c = rw (c.or-2.ensures, c.maybe_clamp-2.ensures, c.or.ensures, c.maybe_clamp.ensures)
