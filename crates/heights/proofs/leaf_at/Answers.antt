use borrow.Author.Rules.{rules}
use Rattle.heights.proofs.leaf_at.Goals as goal

pub returns : goal.returns
returns c = rw (c.leaf_output.ensures, c.measure_at.ensures)
