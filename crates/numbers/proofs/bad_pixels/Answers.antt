use borrow.Author.Rules.{rules}
use Rattle.numbers.proofs.bad_pixels.Goals as goal

pub returns : goal.returns
returns c = rw c.in_range.ensures
