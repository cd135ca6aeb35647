use native.Mathlib.Omega.{arith}
use Rattle.lent.proofs.Reading.{get_d_past}
use borrow.Author.Rules.{rules}
use Rattle.lent.proofs.word_at.Goals as goal

pub returns-else-i-words : goal.returns-else-i-words
returns-else-i-words c = get_d_past c.args.words.now c.args.i _ (omega arith)
