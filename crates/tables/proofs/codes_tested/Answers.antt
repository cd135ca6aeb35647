use Rattle.steps.specs.Noes.{no3, and_then, at_fault}
use borrow.Author.Rules.{rules}
use Rattle.tables.proofs.codes_tested.Goals as goal

pub returns-in-None : goal.returns-in-None
unfolding no3 and_then at_fault
returns-in-None c = rw (← c.first_bad_style.ensures, c.in-None.is)

pub returns-in-Some : goal.returns-in-Some
unfolding no3 and_then at_fault
returns-in-Some c = rw (← c.first_bad_style.ensures, c.in-Some.is)
