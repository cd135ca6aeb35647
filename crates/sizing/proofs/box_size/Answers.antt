use mathlib.Core.Path.{sym}
use Rattle.steps.specs.Sizing.{box_size}
use borrow.Author.Rules.{rules}
use Rattle.sizing.proofs.box_size.Goals as goal

pub returns-then-content : goal.returns-then-content
unfolding box_size
returns-then-content c = λ s e k. rw (k, e, c.if-content.true, c.maybe_add.ensures, c.sum_axes.ensures, c.maybe_apply_aspect_ratio-plain.ensures, c.maybe_resolve.ensures)

pub returns-else-content : goal.returns-else-content
unfolding box_size
returns-else-content c = λ s e k. rw (k, e, c.if-content.false, c.maybe_apply_aspect_ratio-plain.ensures, c.maybe_resolve.ensures)
