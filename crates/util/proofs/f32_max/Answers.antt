use Rattle.util.specs.Order.{larger_second, larger_first}
use Rattle.util.proofs.f32_max.Goals as goal

pub returns-then-a-b : goal.returns-then-a-b
returns-then-a-b c = larger_second c.args.a c.args.b c.if-a-b.true

pub returns-else-a-b : goal.returns-else-a-b
returns-else-a-b c = larger_first c.args.a c.args.b c.if-a-b.false
