use borrow.Author.Rules.{rules}
use Rattle.face.proofs.mearrasot_keeps_order.Goals as goal

pub returns-then-yes : goal.returns-then-yes
returns-then-yes c = rw (← c.keeps_order-yes.ensures, c.if-yes.true)

pub returns-else-yes : goal.returns-else-yes
returns-else-yes c = rw (← c.keeps_order-yes.ensures, c.if-yes.false)
