use Rattle.steps.specs.Width.{want_sized}
use borrow.Author.Rules.{rules}
use Rattle.widths.proofs.want_sized.Goals as goal

pub returns : goal.returns
unfolding want_sized
returns c = rw (c.want_by.ensures, c.maybe_clamp.ensures)
