use borrow.Author.Rules.{rules}
use borrow.Author.Tests.{lt-ltb, le-ltb, eq-eqb, ne_eqb}
use Rattle.profiles.specs.Numbers.{unit_at}
use Rattle.profiles.proofs.unit_at.Goals as goal

pub returns-then-f-lt-LENGTHS : goal.returns-then-f-lt-LENGTHS
unfolding unit_at
returns-then-f-lt-LENGTHS c = rw (lt-ltb _ 22 c.if-f-lt-LENGTHS.true) c.unit.ensures

pub returns-then-f-eq-RATIO : goal.returns-then-f-eq-RATIO
unfolding unit_at
returns-then-f-eq-RATIO c = rw (le-ltb _ 22 c.if-f-lt-LENGTHS.false, eq-eqb _ 22 c.if-f-eq-RATIO.true)

pub returns-else-f-eq-RATIO : goal.returns-else-f-eq-RATIO
unfolding unit_at
returns-else-f-eq-RATIO c = rw (le-ltb _ 22 c.if-f-lt-LENGTHS.false, ne_eqb _ 22 c.if-f-eq-RATIO.false)
