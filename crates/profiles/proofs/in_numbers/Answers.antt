use borrow.Author.Rules.{rules}
use Rattle.profiles.specs.Numbers.{in_numbers}
use Rattle.profiles.proofs.in_numbers.Goals as goal

pub returns-then-not-is_center : goal.returns-then-not-is_center
unfolding in_numbers
returns-then-not-is_center c = rw (← c.some_broken.ensures, c.if-not-some_broken.true, ← c.number_in.ensures, ← c.ratio_from-ratio.ensures, ← c.is_some.ensures, c.if-not-is_some.true, ← c.align_of-align.ensures, ← c.is_center.ensures, c.if-not-is_center.true) c.one_auto.ensures

pub returns-else-not-is_center : goal.returns-else-not-is_center
unfolding in_numbers
returns-else-not-is_center c = rw (← c.some_broken.ensures, c.if-not-some_broken.true, ← c.number_in.ensures, ← c.ratio_from-ratio.ensures, ← c.is_some.ensures, c.if-not-is_some.true, ← c.align_of-align.ensures, ← c.is_center.ensures, c.if-not-is_center.false)

pub returns-else-not-is_some : goal.returns-else-not-is_some
unfolding in_numbers
returns-else-not-is_some c = rw (← c.some_broken.ensures, c.if-not-some_broken.true, ← c.number_in.ensures, ← c.ratio_from-ratio.ensures, ← c.is_some.ensures, c.if-not-is_some.false)

pub returns-else-not-some_broken : goal.returns-else-not-some_broken
unfolding in_numbers
returns-else-not-some_broken c = rw (← c.some_broken.ensures, c.if-not-some_broken.false)
