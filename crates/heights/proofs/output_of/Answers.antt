use mathlib.Core.Path.{ap}
use Rattle.heights.specs.Leaves.{stack_leaves}
use Rattle.heights.specs.declared.StackOutput.{StackOutput}
use Rattle.heights.specs.Tail.{tail_of}
use Rattle.heights.specs.declared.Tail.{Tail}
use Rattle.steps.specs.Through.{output_of}
use borrow.Author.Rules.{rules}
use Rattle.heights.proofs.output_of.Goals as goal

pub returns : goal.returns
unfolding output_of tail_of stack_leaves
returns c = λ s q f k e h. rw (c.block_baseline.ensures s q e, c.can_be_collapsed_through.ensures f k h, c.passed_out-2.ensures, c.passed_out.ensures, c.own_bottom_margin_collapses_with_children-own_end.ensures f k h, ap (λ (t : Tail). t.top) e, ap (λ (t : Tail). t.bottom) e, h)
