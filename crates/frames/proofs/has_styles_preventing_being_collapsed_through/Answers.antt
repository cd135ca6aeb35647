use Rattle.steps.specs.Through.{hollow_box}
use borrow.Author.Rules.{rules}
use Rattle.frames.proofs.has_styles_preventing_being_collapsed_through.Goals as goal

pub returns-then-plain : goal.returns-then-plain
unfolding hollow_box
returns-then-plain c = λ s e. rw (c.has_vertical_edges.ensures, e, c.if-plain.true, c.if-nested.true)

pub returns-else-plain : goal.returns-else-plain
unfolding hollow_box
returns-else-plain c = λ s e. rw (e, c.if-plain.false, c.if-nested.true)

pub returns-else-nested : goal.returns-else-nested
unfolding hollow_box
returns-else-nested c = λ s e. rw c.if-nested.false
