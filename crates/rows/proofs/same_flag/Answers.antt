use Rattle.rows.proofs.Bits.{beq_true, beq_false}
use borrow.Author.Rules.{rules}
use Rattle.rows.proofs.same_flag.Goals as goal

pub returns-then-a : goal.returns-then-a
returns-then-a c = rw c.if-a.true (beq_true c.args.b)

pub returns-else-a : goal.returns-else-a
returns-else-a c = rw c.if-a.false (beq_false c.args.b)
