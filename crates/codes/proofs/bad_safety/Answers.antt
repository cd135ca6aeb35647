use Rattle.steps.specs.Noes.{bad_safety}
use borrow.Author.Rules.{rules}
use Rattle.codes.proofs.bad_safety.Goals as goal

pub returns-then-flag : goal.returns-then-flag
unfolding bad_safety
returns-then-flag c = rw (← c.flag.ensures, c.code.ensures, c.if-flag.true)

pub returns-else-flag : goal.returns-else-flag
unfolding bad_safety
returns-else-flag c = rw (← c.flag.ensures, c.if-flag.false)
