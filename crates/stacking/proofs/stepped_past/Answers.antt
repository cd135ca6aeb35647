use Rattle.steps.specs.Stack.{stepped}
use borrow.Author.Rules.{rules}
use Rattle.stacking.proofs.stepped_past.Goals as goal

pub returns-then-answer : goal.returns-then-answer
unfolding stepped
returns-then-answer c = λ z. rw (c.past_through.ensures, c.baseline_past-baseline.ensures z, c.bottom_margin_set-b.ensures z, c.top_margin_set-t.ensures z, c.if-answer.true)

pub returns-else-answer : goal.returns-else-answer
unfolding stepped
returns-else-answer c = λ z. rw (c.past_box.ensures, c.baseline_past-baseline.ensures z, c.bottom_margin_set-b.ensures z, c.top_margin_set-t.ensures z, c.if-answer.false)
