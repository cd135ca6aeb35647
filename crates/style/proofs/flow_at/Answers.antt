use Rattle.style.specs.Flow.{flow_at}
use borrow.Author.Rules.{rules}
use Rattle.style.proofs.flow_at.Goals as goal

pub returns : goal.returns
unfolding flow_at
returns c = rw (c.flow_by.ensures, ← c.kind_of.ensures, ← c.position_of.ensures)
