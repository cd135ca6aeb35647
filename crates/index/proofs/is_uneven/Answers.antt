use borrow.Author.Tests.{eq-eqb, ne_eqb}
use Rattle.index.specs.Index.{uneven}
use Rattle.index.proofs.is_uneven.Goals as goal

pub returns-then-tops-list : goal.returns-then-tops-list
unfolding uneven
returns-then-tops-list c = rw (ne_eqb _ _ c.if-tops-list.true)

pub returns-then-bottoms-list : goal.returns-then-bottoms-list
unfolding uneven
returns-then-bottoms-list c = rw (ne_eqb _ _ c.if-bottoms-list.true, eq-eqb _ _ c.if-tops-list.false)

pub returns : goal.returns
unfolding uneven
returns c = rw (eq-eqb _ _ c.if-bottoms-list.false, eq-eqb _ _ c.if-tops-list.false)
