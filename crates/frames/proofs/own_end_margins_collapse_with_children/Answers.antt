use Rattle.steps.specs.Edges.{own_end_of}
use borrow.Author.Rules.{rules}
use Rattle.frames.proofs.own_end_margins_collapse_with_children.Goals as goal

pub returns-then-children_margins_adjoin_own_edge : goal.returns-then-children_margins_adjoin_own_edge
unfolding own_end_of
returns-then-children_margins_adjoin_own_edge c = λ s e. rw (c.is_some.ensures, ← c.children_margins_adjoin_own_edge.ensures s e, c.if-children_margins_adjoin_own_edge.true)

pub returns : goal.returns
unfolding own_end_of
returns c = λ s e. rw (← c.children_margins_adjoin_own_edge.ensures s e, c.if-children_margins_adjoin_own_edge.false)
