use Rattle.steps.specs.Noes.{no2, and_then, at_fault}
use borrow.Author.Rules.{rules}
use Rattle.tables.proofs.tree_tested.Goals as goal

pub returns-in-None : goal.returns-in-None
unfolding no2 and_then at_fault
returns-in-None c = rw (← c.check_tree.ensures, c.in-None.is)

pub returns-in-Some : goal.returns-in-Some
unfolding no2 and_then at_fault
returns-in-Some c = rw (← c.check_tree.ensures, c.in-Some.is)
