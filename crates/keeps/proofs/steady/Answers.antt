use Rattle.style.specs.Style.{style_at}
use Rattle.order.specs.Class.{steady}
use borrow.Author.Rules.{rules}
use Rattle.keeps.proofs.steady.Goals as goal

pub returns-then-still : goal.returns-then-still
unfolding steady style_at
returns-then-still c = rw (← c.fair_down.ensures, c.if-fair_down.true, ← c.whole_down.ensures, c.if-whole_down.true, ← c.whole_down-then-whole_down.ensures, c.if-whole_down-2.true, ← c.word-w.ensures, ← c.position_of.ensures, ← c.still.ensures, c.if-still.true, ← c.align_of.ensures) c.unshifted.ensures

pub returns-else-still : goal.returns-else-still
unfolding steady style_at
returns-else-still c = rw (← c.fair_down.ensures, c.if-fair_down.true, ← c.whole_down.ensures, c.if-whole_down.true, ← c.whole_down-then-whole_down.ensures, c.if-whole_down-2.true, ← c.word-w.ensures, ← c.position_of.ensures, ← c.still.ensures, c.if-still.false)

pub returns-else-whole_down-2 : goal.returns-else-whole_down-2
unfolding steady style_at
returns-else-whole_down-2 c = rw (← c.fair_down.ensures, c.if-fair_down.true, ← c.whole_down.ensures, c.if-whole_down.true, ← c.whole_down-then-whole_down.ensures, c.if-whole_down-2.false)

pub returns-else-whole_down : goal.returns-else-whole_down
unfolding steady style_at
returns-else-whole_down c = rw (← c.fair_down.ensures, c.if-fair_down.true, ← c.whole_down.ensures, c.if-whole_down.false)

pub returns-else-fair_down : goal.returns-else-fair_down
unfolding steady style_at
returns-else-fair_down c = rw (← c.fair_down.ensures, c.if-fair_down.false)
