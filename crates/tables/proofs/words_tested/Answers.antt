use Rattle.steps.specs.Noes.{and_then, at_fault}
use borrow.Author.Rules.{rules}
use Rattle.tables.proofs.words_tested.Goals as goal

pub returns-in-None : goal.returns-in-None
unfolding and_then at_fault
returns-in-None c = rw (← c.first_bad_codes.ensures, c.in-None.is)

pub returns-in-Some : goal.returns-in-Some
unfolding and_then at_fault
returns-in-Some c = rw (← c.first_bad_codes.ensures, c.in-Some.is)
