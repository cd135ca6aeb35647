use Rattle.steps.specs.Stack.{offset_x}
use borrow.Author.Rules.{rules}
use Rattle.stacking.proofs.item.offset_x.Goals as goal

pub returns-then-rtl : goal.returns-then-rtl
unfolding offset_x
returns-then-rtl c = rw (c.unwrap_or.ensures, c.or.ensures, c.negated.ensures, c.if-rtl.true)

pub returns-else-rtl : goal.returns-else-rtl
unfolding offset_x
returns-else-rtl c = rw (c.unwrap_or-else-rtl.ensures, c.or-else-rtl.ensures, c.negated-else-rtl.ensures, c.if-rtl.false)
