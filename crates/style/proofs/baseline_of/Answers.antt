use Rattle.style.specs.Codes.{baseline_of}
use borrow.Author.Rules.{rules}
use Rattle.style.proofs.baseline_of.Goals as goal

pub returns-then-not-flag : goal.returns-then-not-flag
unfolding baseline_of
returns-then-not-flag c = rw (← c.flag-then-flag.ensures, c.if-not-flag.true, ← c.flag.ensures, c.if-flag.true)

pub returns-else-not-flag : goal.returns-else-not-flag
unfolding baseline_of
returns-else-not-flag c = rw (← c.flag-then-flag.ensures, c.if-not-flag.false, ← c.flag.ensures, c.if-flag.true)

pub returns-else-flag : goal.returns-else-flag
unfolding baseline_of
returns-else-flag c = rw (← c.flag.ensures, c.if-flag.false)
