use borrow.Author.Rules.{rules}
use mathlib.Core.Path.{ap, ◌∙◌}
use Rattle.profile.specs.Profile.{whole_option}
use Rattle.profiles.proofs.whole_question.Goals as goal

pub returns-then-whole_option-4 : goal.returns-then-whole_option-4
returns-then-whole_option-4 c = rw (← c.whole_option.ensures, c.if-whole_option.true, ← c.whole_option-then-whole_option.ensures, c.if-whole_option-2.true, ← c.whole_option-then-whole_option-2.ensures, c.if-whole_option-3.true, ← c.whole_option-then-whole_option-3.ensures, c.if-whole_option-4.true) (c.whole_option-then-whole_option-4.ensures ∙ ap whole_option c.into_option-available.ensures)

pub returns-else-whole_option-4 : goal.returns-else-whole_option-4
returns-else-whole_option-4 c = rw (← c.whole_option.ensures, c.if-whole_option.true, ← c.whole_option-then-whole_option.ensures, c.if-whole_option-2.true, ← c.whole_option-then-whole_option-2.ensures, c.if-whole_option-3.true, ← c.whole_option-then-whole_option-3.ensures, c.if-whole_option-4.false)

pub returns-else-whole_option-3 : goal.returns-else-whole_option-3
returns-else-whole_option-3 c = rw (← c.whole_option.ensures, c.if-whole_option.true, ← c.whole_option-then-whole_option.ensures, c.if-whole_option-2.true, ← c.whole_option-then-whole_option-2.ensures, c.if-whole_option-3.false)

pub returns-else-whole_option-2 : goal.returns-else-whole_option-2
returns-else-whole_option-2 c = rw (← c.whole_option.ensures, c.if-whole_option.true, ← c.whole_option-then-whole_option.ensures, c.if-whole_option-2.false)

pub returns-else-whole_option : goal.returns-else-whole_option
returns-else-whole_option c = rw (← c.whole_option.ensures, c.if-whole_option.false)
