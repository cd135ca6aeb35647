use Rattle.style.specs.Style.{length_at}
use borrow.Author.Rules.{rules}
use Rattle.style.proofs.length_at.Goals as goal

pub returns : goal.returns
unfolding length_at
returns c = rw (c.length_from.ensures, c.number.ensures, c.unit.ensures, c.word-v.ensures, c.word-u.ensures)
