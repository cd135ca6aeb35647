use lib.Ieee.{neg, of_bits}
use Rattle.scroll.specs.Scroll.{is_finite}
use borrow.Author.Rules.{rules}
use Rattle.scroll.proofs.is_finite.Goals as goal

pub returns : goal.returns
unfolding is_finite neg of_bits
returns c = rw c.in_range.ensures
