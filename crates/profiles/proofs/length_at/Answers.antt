use borrow.Author.Rules.{rules}
use Rattle.profiles.specs.Numbers.{as_length}
use Rattle.profiles.proofs.length_at.Goals as goal

pub returns : goal.returns
unfolding as_length
returns c = rw (c.length_from.ensures, c.number_in.ensures, c.unit_at.ensures)
