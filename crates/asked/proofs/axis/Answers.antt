use mathlib.Core.Path.{sym, ◌∙◌}
use Rattle.asked.specs.Question.{axis_of}
use borrow.Author.Rules.{rules}
use Rattle.asked.proofs.axis.Goals as goal

pub returns-then-flag : goal.returns-then-flag
unfolding axis_of
returns-then-flag c = rw (sym c.flag.ensures ∙ c.if-flag.true)

pub returns-else-flag : goal.returns-else-flag
unfolding axis_of
returns-else-flag c = rw (sym c.flag.ensures ∙ c.if-flag.false)
