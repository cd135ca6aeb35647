use mathlib.Core.Path.{ap}
use Rattle.heights.specs.Leaves.{stack_leaves}
use Rattle.heights.specs.declared.StackOutput.{StackOutput}
use Rattle.steps.specs.Height.{still_own_end}
use borrow.Author.Rules.{rules}
use Rattle.heights.proofs.own_bottom_margin_collapses_with_children.Goals as goal

pub returns-then-stack : goal.returns-then-stack
unfolding still_own_end stack_leaves
returns-then-stack c = λ f k e. rw (c.height_constrained_by_min_height.ensures, ← ap (λ (s : StackOutput). s.ownEnd) e, ← ap (λ (s : StackOutput). s.minHeight) e, c.if-stack.true)

pub returns-else-stack : goal.returns-else-stack
unfolding still_own_end stack_leaves
returns-else-stack c = λ f k e. rw (← ap (λ (s : StackOutput). s.ownEnd) e, c.if-stack.false)
