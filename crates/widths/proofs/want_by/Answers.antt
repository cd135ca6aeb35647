use mathlib.Core.Path.{sym}
use Rattle.steps.specs.Width.{want_by}
use borrow.Author.Rules.{rules}
use Rattle.widths.proofs.want_by.Goals as goal

pub returns-in-None : goal.returns-in-None
unfolding want_by
returns-in-None c = rw (c.want_probe.ensures, c.in-None.is)

pub returns-in-Some : goal.returns-in-Some
unfolding want_by
returns-in-Some c = rw (c.outer_of.ensures c.args.z (sym c.horizontal_axis_sum.ensures), c.in-Some.is)
