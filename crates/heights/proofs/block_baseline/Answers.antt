use mathlib.Core.Path.{ap}
use Rattle.heights.specs.Tail.{tail_of}
use Rattle.heights.specs.declared.Tail.{Tail}
use Rattle.steps.specs.Baseline.{block_baseline}
use borrow.Author.Rules.{rules}
use Rattle.heights.proofs.block_baseline.Goals as goal

pub returns-then-tail : goal.returns-then-tail
unfolding block_baseline tail_of
returns-then-tail c = λ s q e. rw (← ap (λ t. t.contained) e, c.if-tail.true)

pub returns-else-tail : goal.returns-else-tail
unfolding block_baseline tail_of
returns-else-tail c = λ s q e. rw (c.shifted.ensures, ← ap (λ t. t.contained) e, c.if-tail.false)
