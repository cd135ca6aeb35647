use Rattle.steps.specs.Width.{side_margins}
use borrow.Author.Rules.{rules}
use Rattle.widths.proofs.side_margins.Goals as goal

pub returns : goal.returns
unfolding side_margins
returns c = rw (c.resolve_or_zero-2.ensures, c.margin_right.ensures, c.resolve_or_zero.ensures, c.margin_left.ensures)
