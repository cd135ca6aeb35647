use Rattle.util.specs.Order.{smaller_second, smaller_first}
use Rattle.util.proofs.f32_min.Goals as goal

pub returns-then-b-a : goal.returns-then-b-a
returns-then-b-a c = smaller_second c.args.a c.args.b c.if-b-a.true

pub returns-else-b-a : goal.returns-else-b-a
returns-else-b-a c = smaller_first c.args.a c.args.b c.if-b-a.false
