use mathlib.Core.Path.{ap}
use Rattle.heights.specs.Leaves.{stack_leaves}
use Rattle.heights.specs.declared.StackOutput.{StackOutput}
use Rattle.heights.specs.Tail.{tail_of}
use Rattle.heights.specs.declared.Tail.{Tail}
use Rattle.steps.specs.Height.{step_k, step_m}
use borrow.Author.Rules.{rules}
use Rattle.heights.proofs.group_offset.Goals as goal

pub returns : goal.returns
unfolding step_m tail_of stack_leaves
returns c = λ s q f k e h. rw (c.compute_block_align_content_offset.ensures, ap (λ (t : Tail). t.align) e, ap (λ (t : Tail). t.safe) e, ap (λ (t : StackOutput). t.insets) h, ap (λ (t : StackOutput). t.content) h)
