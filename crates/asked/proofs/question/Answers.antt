use Rattle.asked.specs.Question.{plain_question}
use borrow.Author.Rules.{rules}
use Rattle.asked.proofs.question.Goals as goal

pub returns : goal.returns
unfolding plain_question
returns c = rw (c.flag-5.ensures, c.flag-4.ensures, c.available_of.ensures, c.code.ensures, c.flag-3.ensures, c.option-2.ensures, c.flag-2.ensures, c.option.ensures, c.flag.ensures)
