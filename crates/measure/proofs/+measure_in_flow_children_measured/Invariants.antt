use Prim.Native.Nat.{ℕ, ◌+◌, ◌*◌, ◌<◌}
use mathlib.Core.Path.{refl, sym, ap, ◌∙◌}
use Prim.Native.Nat.{ℕ}
use native.Mathlib.Omega.{arith}
use borrow.Author.Rules.{rules}
use Rattle.style.specs.Flow.{is_leaf}
use Rattle.style.specs.declared.Measure.{Measure}
use Rattle.reader.specs.Reader.{kind_at, measure_at_lem}
use Rattle.steps.specs.Through.{leaf_output}
use Rattle.measure.proofs.Sites.{facts}
use Rattle.measure.proofs.OneNode.{leaf-measured, block-measured}
use mathlib.Core.Path.{refl, ap, ◌∙◌}
use Prim.Native.Nat.{ℕ, ◌+◌, ◌*◌, ◌-◌, ◌<◌, ◌≤◌}
use lib.ListN.{length, take, drop}
use Rattle.reader.specs.Reader.{flow_at_lem}
use Rattle.tree.specs.Tree.{Tree, node}
use Rattle.steps.specs.Page.{Site}
use Rattle.steps.specs.Stack.{Counts}
use Rattle.steps.specs.declared.Cursor.{Cursor}
use Rattle.heights.specs.Leaves.{stack_leaves}
use Rattle.compute.proofs.Counting.{counted_to, shorter}
use Rattle.compute.proofs.StackLoop.{start_counts}
use Rattle.measure.specs.Contract.{SitesT, IsTree}
use Rattle.measure.proofs.Sites.{Facts, facts}
use Rattle.measure.proofs.Loops.{StackRestT, StackTurnT, stack_begin, stack_turn, stack_end, past_counts}
use Rattle.measure.proofs.OneNode.{Passed, gone-passed, out-passed, in-passed}
use Rattle.measure.proofs.+measure_in_flow_children_measured.Given as goal

abbrev pub decreases-measure_in_flow_children : goal.decreases-measure_in_flow_children
decreases-measure_in_flow_children l = 2 * l.depth

abbrev pub decreases-measured : goal.decreases-measured
decreases-measured l = 2 * l.depth + 1

abbrev pub invariant-measure_in_flow_children-loop-child : goal.invariant-measure_in_flow_children-loop-child
invariant-measure_in_flow_children-loop-child l = (4 * l.child ≤ length l.words) × ((l.cursor.count ≤ l.child) × (l.cursor.shown.0 ≤ l.child)) × ((k : Tree Site) → SitesT l.words l.numbers l.base k → StackRestT l.words l.numbers l.base l.frame k l.cursor l.child)

abbrev pub decreases-measure_in_flow_children-loop-child : goal.decreases-measure_in_flow_children-loop-child
decreases-measure_in_flow_children-loop-child l = length l.words - l.child
