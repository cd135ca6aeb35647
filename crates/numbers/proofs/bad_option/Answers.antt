use Rattle.steps.specs.Noes.{bad_option}
use borrow.Author.Rules.{rules}
use Rattle.numbers.proofs.bad_option.Goals as goal

pub returns-in-None : goal.returns-in-None
unfolding bad_option
returns-in-None c = rw c.in-None.is

pub returns-in-Some : goal.returns-in-Some
unfolding bad_option
returns-in-Some c = rw (c.bad_pixels.ensures, c.in-Some.is)
