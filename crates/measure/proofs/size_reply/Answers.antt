use mathlib.Core.Path.{sym, ◌∙◌}
use Rattle.steps.specs.Results.{size_reply}
use borrow.Author.Rules.{rules}
use Rattle.measure.proofs.size_reply.Goals as goal

pub returns-then-too_large : goal.returns-then-too_large
unfolding size_reply
returns-then-too_large c = rw (sym c.too_large.ensures ∙ c.if-too_large.true)

pub returns-then-too_large-2 : goal.returns-then-too_large-2
unfolding size_reply
returns-then-too_large-2 c = rw (sym c.too_large.ensures ∙ c.if-too_large.false, sym c.too_large-2.ensures ∙ c.if-too_large-2.true)

pub returns : goal.returns
unfolding size_reply
returns c = rw (sym c.too_large.ensures ∙ c.if-too_large.false, sym c.too_large-2.ensures ∙ c.if-too_large-2.false)
