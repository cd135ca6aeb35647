use Rattle.steps.specs.Row.{with_code}
use Rattle.rows.specs.Store.{unlaid, probe_bits}
use borrow.Author.Rules.{rules}
use Rattle.rows.proofs.probe_bits.Goals as goal

pub returns : goal.returns
unfolding probe_bits with_code unlaid
returns c = rw (c.one.ensures.is, c.available_kind-kind.ensures.is)
