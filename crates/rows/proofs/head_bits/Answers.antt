use Rattle.rows.specs.Store.{head_bits}
use Rattle.rows.proofs.head_bits.Goals as goal

pub returns : goal.returns
unfolding head_bits
returns c = rw (c.one-4.ensures.is, c.one-3.ensures.is, c.one-2.ensures.is, c.one.ensures.is)
