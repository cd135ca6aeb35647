use borrow.Author.Rules.{rules}
use Rattle.profiles.specs.Numbers.{sides_auto}
use Rattle.profiles.proofs.sides_auto.Goals as goal

pub returns-then-is_auto : goal.returns-then-is_auto
unfolding sides_auto
returns-then-is_auto c = rw (← c.length_at-left.ensures, ← c.length_at-right.ensures, ← c.is_auto.ensures, c.if-is_auto.true) c.is_auto-then-is_auto.ensures

pub returns-else-is_auto : goal.returns-else-is_auto
unfolding sides_auto
returns-else-is_auto c = rw (← c.length_at-left.ensures, ← c.is_auto.ensures, c.if-is_auto.false)
