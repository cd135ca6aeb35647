use Rattle.steps.specs.Width.{want_in}
use borrow.Author.Rules.{rules}
use Rattle.widths.proofs.want_in.Goals as goal

pub returns-in-Gone : goal.returns-in-Gone
unfolding want_in
returns-in-Gone c = rw c.in-Gone.is

pub returns-in-Out : goal.returns-in-Out
unfolding want_in
returns-in-Out c = rw c.in-Out.is

pub returns-in-In : goal.returns-in-In
unfolding want_in
returns-in-In c = rw (c.want_sized.ensures, c.side_margins.ensures, c.into_option.ensures, c.sizing_without_height_basis.ensures, c.in-In.is)
