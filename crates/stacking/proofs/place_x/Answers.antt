use Rattle.steps.specs.Stack.{place_x}
use borrow.Author.Rules.{rules}
use Rattle.stacking.proofs.place_x.Goals as goal

pub returns-then-frame : goal.returns-then-frame
unfolding place_x
returns-then-frame c = λ z. rw (c.x_axis_auto_margin_size.ensures, ← c.free_x_space-free.ensures z, c.if-frame.true)

pub returns-else-frame : goal.returns-else-frame
unfolding place_x
returns-else-frame c = λ z. rw (c.x_axis_auto_margin_size-else-frame.ensures, ← c.free_x_space-free.ensures z, c.if-frame.false)
