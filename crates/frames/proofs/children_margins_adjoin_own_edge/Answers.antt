use Rattle.steps.specs.Edges.{adjoins}
use Rattle.frames.proofs.children_margins_adjoin_own_edge.Goals as goal

pub returns-then-padding : goal.returns-then-padding
unfolding adjoins
returns-then-padding c = λ s e. rw (c.if-padding.true, e, c.if-plain.true, c.if-flag.true)

pub returns-else-padding : goal.returns-else-padding
unfolding adjoins
returns-else-padding c = λ s e. rw (c.if-padding.false, e, c.if-plain.true, c.if-flag.true)

pub returns-else-plain : goal.returns-else-plain
unfolding adjoins
returns-else-plain c = λ s e. rw (e, c.if-plain.false, c.if-flag.true)

pub returns-else-flag : goal.returns-else-flag
unfolding adjoins
returns-else-flag c = λ s e. rw c.if-flag.false
