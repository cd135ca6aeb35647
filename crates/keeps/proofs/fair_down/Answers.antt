use Rattle.style.specs.Style.{rect_at}
use Rattle.order.specs.Class.{fair_down}
use borrow.Author.Rules.{rules}
use Rattle.keeps.proofs.fair_down.Goals as goal

pub returns-then-fair : goal.returns-then-fair
unfolding fair_down rect_at
returns-then-fair c = rw (← c.length_at.ensures, ← c.fair.ensures, c.if-fair.true, ← c.length_at-then-fair.ensures) c.fair-then-fair.ensures

pub returns-else-fair : goal.returns-else-fair
unfolding fair_down rect_at
returns-else-fair c = rw (← c.length_at.ensures, ← c.fair.ensures, c.if-fair.false)
