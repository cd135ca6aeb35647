use mathlib.Core.Path.{sym, ◌∙◌}
use borrow.Author.Tests.{not-true, not-false}
use Rattle.scroll.proofs.Answers.{refused, some, none, replied}
use borrow.Author.Rules.{rules}
use Rattle.scroll.proofs.scroll.Goals as goal

pub returns-then-not-is_finite : goal.returns-then-not-is_finite
returns-then-not-is_finite c = replied (refused _ _ (sym c.is_finite.ensures ∙ c.if-not-is_finite.true))

pub returns-then-at-running : goal.returns-then-at-running
returns-then-at-running c = replied (some _ _ _ (sym c.is_finite.ensures ∙ c.if-not-is_finite.false) c.halve-at.ensures c.if-at-running.true)

pub returns : goal.returns
returns c = replied (none _ _ _ (sym c.is_finite.ensures ∙ c.if-not-is_finite.false) c.halve-at.ensures c.if-at-running.false)
