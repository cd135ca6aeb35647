use Rattle.steps.specs.Noes.{no5}
use borrow.Author.Tests.{lt-ltb, le-ltb}
use borrow.Author.Rules.{rules}
use Rattle.tables.proofs.room_tested.Goals as goal

pub returns-then-records_in-count_needed : goal.returns-then-records_in-count_needed
unfolding no5
returns-then-records_in-count_needed c = λ xs. rw (← c.records_in.ensures, ← c.count_needed.ensures xs, lt-ltb _ _ c.if-records_in-count_needed.true)

pub returns : goal.returns
unfolding no5
returns c = λ xs. rw (← c.records_in.ensures, ← c.count_needed.ensures xs, le-ltb _ _ c.if-records_in-count_needed.false)
