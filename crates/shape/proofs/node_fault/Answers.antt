use borrow.Author.Tests.{lt-ltb, le-ltb, eq-eqb, ne_eqb}
use Rattle.shape.specs.TreeCheck.{node_fault}
use borrow.Author.Rules.{rules}
use Rattle.shape.proofs.node_fault.Goals as goal

pub returns-then-size-eq0 : goal.returns-then-size-eq0
unfolding node_fault
returns-then-size-eq0 c = rw (eq-eqb _ _ c.if-size-eq0.true)

pub returns-then-room-size : goal.returns-then-room-size
unfolding node_fault
returns-then-room-size c = rw (lt-ltb _ _ c.if-room-size.true, ne_eqb _ _ c.if-size-eq0.false)

pub returns-then-long_leaf : goal.returns-then-long_leaf
unfolding node_fault
returns-then-long_leaf c = rw (← c.long_leaf.ensures, c.if-long_leaf.true, le-ltb _ _ c.if-room-size.false, ne_eqb _ _ c.if-size-eq0.false)

pub returns : goal.returns
unfolding node_fault
returns c = rw (← c.long_leaf.ensures, c.if-long_leaf.false, le-ltb _ _ c.if-room-size.false, ne_eqb _ _ c.if-size-eq0.false)
