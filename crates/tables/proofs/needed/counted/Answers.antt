use Rattle.tables.specs.Walk.{counted_by}
use borrow.Author.Rules.{rules}
use Rattle.tables.proofs.needed.counted.Goals as goal

pub returns-in-Gone : goal.returns-in-Gone
unfolding counted_by
returns-in-Gone c = rw c.in-Gone.is

pub returns-in-Out : goal.returns-in-Out
unfolding counted_by
returns-in-Out c = rw c.in-Out.is

pub returns-in-In : goal.returns-in-In
unfolding counted_by
returns-in-In c = rw c.in-In.is
