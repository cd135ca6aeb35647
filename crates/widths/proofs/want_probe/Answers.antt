use Rattle.steps.specs.Width.{want_by}
use borrow.Author.Rules.{rules}
use Rattle.widths.proofs.want_probe.Goals as goal

pub returns : goal.returns
unfolding want_by
returns c = rw (c.maybe_sub.ensures, c.maybe_clamp.ensures)
