use borrow.Author.Rules.{rules}
use lib.Bits.{and_mask}
use Rattle.style.proofs.code.Goals as goal

pub returns : goal.returns
returns c = and_mask _ 2
