use Rattle.limits.specs.Laws.{small, large_under, large_over}
use Rattle.limits.proofs.too_large.Goals as goal

pub returns-then-x-2 : goal.returns-then-x-2
returns-then-x-2 c = small c.args.x c.if-x.true c.if-x-2.true

pub returns-else-x-2 : goal.returns-else-x-2
returns-else-x-2 c = large_under c.args.x c.if-x.true c.if-x-2.false

pub returns-else-x : goal.returns-else-x
returns-else-x c = large_over c.args.x c.if-x.false
