use borrow.Author.Tests.{lt-ltb, le-ltb}
use Rattle.index.specs.Index.{list_answer, by_entry}
use borrow.Author.Rules.{rules}
use Rattle.index.proofs.list.list_tested.Goals as goal

pub returns-in-Some : goal.returns-in-Some
unfolding list_answer by_entry
returns-in-Some c = rw (← c.first_bad_entry.ensures, c.in-Some.is)

pub returns-then-list-gt256 : goal.returns-then-list-gt256
unfolding list_answer by_entry
returns-then-list-gt256 c = rw (← c.first_bad_entry.ensures, lt-ltb _ _ c.if-list-gt256.true, c.in_default.is)

pub returns : goal.returns
unfolding list_answer by_entry
returns c = rw (← c.first_bad_entry.ensures, le-ltb _ _ c.if-list-gt256.false, c.in_default.is)
