use native.Mathlib.Omega.{arith}
use Rattle.lent.proofs.Reading.{get_d_any, get_d_past}
use borrow.Author.Rules.{rules}
use Rattle.lent.proofs.number_at.Goals as goal

pub returns-then-i-numbers : goal.returns-then-i-numbers
returns-then-i-numbers c = get_d_any c.args.numbers.now c.args.i _ _ (omega arith)

pub returns-else-i-numbers : goal.returns-else-i-numbers
returns-else-i-numbers c = get_d_past c.args.numbers.now c.args.i _ (omega arith)
