use borrow.Author.Rules.{rules}
use lib.Bits.{and_mask}
use Rattle.style.proofs.flag.Goals as goal

pub returns : goal.returns
returns c = rw (and_mask _ 1)
