use borrow.Author.Tests.{lt-ltb, le-ltb}
use Rattle.steps.specs.Noes.{no6, and_then, at_spot}
use borrow.Author.Rules.{rules}
use Rattle.tables.proofs.edits.edits_tested.Goals as goal

pub returns-in-Some : goal.returns-in-Some
unfolding no6 and_then at_spot
returns-in-Some c = rw (← c.first_bad_edit.ensures, c.in-Some.is)

pub returns-then-edits-gt-MAX_EDITS : goal.returns-then-edits-gt-MAX_EDITS
unfolding no6 and_then at_spot
returns-then-edits-gt-MAX_EDITS c = rw (← c.first_bad_edit.ensures, lt-ltb _ _ c.if-edits-gt-MAX_EDITS.true, c.in_default.is)

pub returns : goal.returns
unfolding no6 and_then at_spot
returns c = rw (← c.first_bad_edit.ensures, le-ltb _ _ c.if-edits-gt-MAX_EDITS.false, c.in_default.is)
