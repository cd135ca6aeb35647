use borrow.Author.Rules.{rules}
use Rattle.records.proofs.record_at.Goals as goal

pub returns : goal.returns
returns c = rw (c.number_at-3.ensures, c.number_at-2.ensures, c.number_at.ensures, c.word_at-2.ensures, c.word_at.ensures)
