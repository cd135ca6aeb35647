use Rattle.limits.specs.Laws.{range_up, range_under}
use Rattle.limits.proofs.in_range.Goals as goal

pub returns-then-lo-x : goal.returns-then-lo-x
returns-then-lo-x c = range_up c.args.x c.args.lo c.args.hi c.if-lo-x.true

pub returns-else-lo-x : goal.returns-else-lo-x
returns-else-lo-x c = range_under c.args.x c.args.lo c.args.hi c.if-lo-x.false
