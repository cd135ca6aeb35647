use Rattle.walks.specs.Tables.{lowered_y}
use borrow.Author.Rules.{rules}
use Rattle.walks.proofs.lowered_by.Goals as goal

pub returns : goal.returns
unfolding lowered_y
returns c = rw (c.pick.ensures, c.moves.ensures)
