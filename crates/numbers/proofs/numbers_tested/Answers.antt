use Rattle.steps.specs.Noes.{no4, and_then, at_fault}
use borrow.Author.Rules.{rules}
use Rattle.numbers.proofs.numbers_tested.Goals as goal

pub returns-in-Some : goal.returns-in-Some
unfolding no4 and_then at_fault
returns-in-Some c = rw (← c.first_bad_numbers.ensures, c.in-Some.is)

pub returns-then-bad_question : goal.returns-then-bad_question
unfolding no4 and_then at_fault
returns-then-bad_question c = rw (c.question_place.ensures, ← c.first_bad_numbers.ensures, ← c.bad_question.ensures, c.if-bad_question.true, c.in_default.is)

pub returns : goal.returns
unfolding no4 and_then at_fault
returns c = rw (← c.first_bad_numbers.ensures, ← c.bad_question.ensures, c.if-bad_question.false, c.in_default.is)
