use borrow.Author.Rules.{rules}
use Rattle.numbers.proofs.least_of.Goals as goal

pub returns-then-signed : goal.returns-then-signed
returns-then-signed c = rw (← c.signed.ensures, c.if-signed.true)

pub returns-else-signed : goal.returns-else-signed
returns-else-signed c = rw (← c.signed.ensures, c.if-signed.false)
