use mathlib.Core.Path.{ap}
use Rattle.heights.specs.Leaves.{stack_leaves}
use Rattle.heights.specs.declared.StackOutput.{StackOutput}
use Rattle.steps.specs.Through.{step_n}
use Rattle.heights.proofs.can_be_collapsed_through.Goals as goal

pub returns-then-height : goal.returns-then-height
unfolding step_n stack_leaves
returns-then-height c = λ f k e. rw (← ap (λ (s : StackOutput). s.hollow) e, ← ap (λ (s : StackOutput). s.allThrough) e, c.if-height.true, c.if-stack.true)

pub returns-else-height : goal.returns-else-height
unfolding step_n stack_leaves
returns-else-height c = λ f k e. rw (← ap (λ (s : StackOutput). s.hollow) e, c.if-height.false, c.if-stack.true)

pub returns-else-stack : goal.returns-else-stack
unfolding step_n stack_leaves
returns-else-stack c = λ f k e. rw (← ap (λ (s : StackOutput). s.hollow) e, c.if-stack.false)
