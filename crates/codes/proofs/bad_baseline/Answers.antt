use Rattle.steps.specs.Noes.{bad_baseline}
use borrow.Author.Rules.{rules}
use Rattle.codes.proofs.bad_baseline.Goals as goal

pub returns-then-flag : goal.returns-then-flag
unfolding bad_baseline
returns-then-flag c = rw (← c.flag.ensures, c.code.ensures, c.if-flag.true)

pub returns-else-flag : goal.returns-else-flag
unfolding bad_baseline
returns-else-flag c = rw (← c.flag.ensures, c.if-flag.false)
