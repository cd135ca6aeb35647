use borrow.Author.Rules.{rules}
use Rattle.walks.proofs.moves.Goals as goal

pub returns-then-flag : goal.returns-then-flag
returns-then-flag c = rw (← c.flag.ensures, c.if-flag.true)

pub returns : goal.returns
returns c = rw (c.flag-2.ensures, ← c.flag.ensures, c.if-flag.false)
