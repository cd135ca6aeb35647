use Rattle.steps.specs.Noes.{bad_question}
use borrow.Author.Rules.{rules}
use Rattle.numbers.proofs.bad_question.Goals as goal

pub returns-then-bad_option : goal.returns-then-bad_option
unfolding bad_question
returns-then-bad_option c = rw (← c.bad_option.ensures, c.if-bad_option.true)

pub returns-then-bad_option-2 : goal.returns-then-bad_option-2
unfolding bad_question
returns-then-bad_option-2 c = rw (← c.bad_option.ensures, ← c.bad_option-2.ensures, c.if-bad_option-2.true, c.if-bad_option.false)

pub returns-then-bad_option-3 : goal.returns-then-bad_option-3
unfolding bad_question
returns-then-bad_option-3 c = rw (← c.bad_option.ensures, ← c.bad_option-2.ensures, ← c.bad_option-3.ensures, c.if-bad_option-3.true, c.if-bad_option-2.false, c.if-bad_option.false)

pub returns : goal.returns
unfolding bad_question
returns c = rw (c.bad_option-4.ensures, ← c.bad_option.ensures, ← c.bad_option-2.ensures, ← c.bad_option-3.ensures, ← c.into_option.ensures, c.if-bad_option-3.false, c.if-bad_option-2.false, c.if-bad_option.false)
