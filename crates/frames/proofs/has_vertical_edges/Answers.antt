use Rattle.steps.specs.Through.{open_box}
use Rattle.frames.proofs.has_vertical_edges.Goals as goal

pub returns-then-padding : goal.returns-then-padding
unfolding open_box
returns-then-padding c = rw c.if-padding.true

pub returns-then-padding-2 : goal.returns-then-padding-2
unfolding open_box
returns-then-padding-2 c = rw (c.if-padding-2.true, c.if-padding.false)

pub returns-then-border : goal.returns-then-border
unfolding open_box
returns-then-border c = rw (c.if-border.true, c.if-padding-2.false, c.if-padding.false)

pub returns : goal.returns
unfolding open_box
returns c = rw (c.if-border.false, c.if-padding-2.false, c.if-padding.false)
