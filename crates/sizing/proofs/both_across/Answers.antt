use borrow.Author.Rules.{rules}
use Rattle.sizing.proofs.both_across.Goals as goal

pub returns : goal.returns
returns c = rw (c.right_of.ensures, c.left_of.ensures)
