use Rattle.steps.specs.Through.{leaf_output}
use borrow.Author.Rules.{rules}
use Rattle.heights.proofs.leaf_output.Goals as goal

pub returns : goal.returns
unfolding leaf_output
returns c = rw (c.zero-2.ensures, c.zero.ensures, c.unwrap_or-2.ensures, c.unwrap_or.ensures, c.leaf_width.ensures)
