use Rattle.steps.specs.Context.{plain_block}
use Rattle.reader.specs.Reader.{flow_by, kind_by}
use borrow.Author.Rules.{rules}
use Rattle.frames.proofs.is_in_same_bfc.Goals as goal

pub returns-then-is_leaf : goal.returns-then-is_leaf
unfolding plain_block
returns-then-is_leaf c = λ f s xs j. rw (flow_by _ f s xs j, kind_by _ f s xs j, ← c.flow_at.ensures, ← c.is_in.ensures, c.if-is_in.true, ← c.kind_of-kind.ensures, ← c.is_leaf.ensures, c.if-is_leaf.true)

pub returns-then-is_in : goal.returns-then-is_in
unfolding plain_block
returns-then-is_in c = λ f s xs j. rw (c.establishes_new_bfc.ensures f s xs j, flow_by _ f s xs j, kind_by _ f s xs j, ← c.flow_at.ensures, ← c.is_in.ensures, c.if-is_in.true, ← c.kind_of-kind.ensures, ← c.is_leaf.ensures, c.if-is_leaf.false)

pub returns : goal.returns
unfolding plain_block
returns c = λ f s xs j. rw (flow_by _ f s xs j, ← c.flow_at.ensures, ← c.is_in.ensures, c.if-is_in.false)
