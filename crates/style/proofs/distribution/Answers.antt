use lib.Bits.{and_mask}
use Rattle.style.proofs.distribution.Goals as goal

pub returns : goal.returns
returns c = and_mask _ 3
