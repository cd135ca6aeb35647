use Rattle.style.specs.Style.{measure_at}
use borrow.Author.Rules.{rules}
use Rattle.style.proofs.measure_at.Goals as goal

pub returns : goal.returns
unfolding measure_at
returns c = rw (c.baseline_of.ensures, c.number-4.ensures, c.number-3.ensures, c.number-2.ensures, c.number.ensures, c.word-w.ensures)
