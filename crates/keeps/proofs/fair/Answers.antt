use Rattle.order.specs.Class.{fair}
use borrow.Author.Rules.{rules}
use Rattle.keeps.proofs.fair.Goals as goal

pub returns-in-Auto : goal.returns-in-Auto
unfolding fair
returns-in-Auto c = rw c.in-Auto.is

pub returns-in-Pixels : goal.returns-in-Pixels
unfolding fair
returns-in-Pixels c = rw c.in-Pixels.is

pub returns-in-Fraction : goal.returns-in-Fraction
unfolding fair
returns-in-Fraction c = rw c.in-Fraction.is
