use Rattle.style.specs.Style.{rect_at}
use Rattle.order.specs.Class.{whole_down}
use borrow.Author.Rules.{rules}
use Rattle.keeps.proofs.whole_down.Goals as goal

pub returns-then-whole : goal.returns-then-whole
unfolding whole_down rect_at
returns-then-whole c = rw (← c.length_at.ensures, ← c.whole.ensures, c.if-whole.true, ← c.length_at-then-whole.ensures) c.whole-then-whole.ensures

pub returns-else-whole : goal.returns-else-whole
unfolding whole_down rect_at
returns-else-whole c = rw (← c.length_at.ensures, ← c.whole.ensures, c.if-whole.false)
