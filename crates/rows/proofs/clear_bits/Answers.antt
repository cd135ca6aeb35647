use Rattle.rows.proofs.Bits.{clear_bits}
use borrow.Author.Rules.{rules}
use Rattle.rows.proofs.clear_bits.Goals as goal

pub returns : goal.returns
returns c = clear_bits _
