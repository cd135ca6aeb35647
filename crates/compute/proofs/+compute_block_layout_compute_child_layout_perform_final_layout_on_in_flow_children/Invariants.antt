use Prim.Native.Nat.{ℕ, ◌+◌, ◌*◌, ◌<◌}
use mathlib.Core.Path.{◌≡◌, ap, ◌∙◌}
use mathlib.Core.List.{List}
use Prim.Native.Nat.{ℕ, ◌+◌, ◌*◌, ◌-◌, ◌<◌, ◌≤◌}
use native.Mathlib.Omega.{arith}
use lib.ListN.{length, take, drop}
use lib.Ieee.{Float}
use borrow.Rule.Slice.PartMut.{put_mid, same_len_mid}
use Rattle.tree.specs.Tree.{Tree}
use Rattle.steps.specs.Page.{Cell}
use Rattle.steps.specs.Stack.{Counts}
use Rattle.steps.specs.declared.Cursor.{Cursor}
use Rattle.walks.specs.Tables.{TabledT, IsTree}
use Rattle.walks.proofs.Given.{Facts, facts}
use Rattle.compute.proofs.Counting.{counted_to}
use Rattle.compute.proofs.Asked.{PlacedT}
use Rattle.compute.proofs.StackLoop.{RestT, Turn, turn}
use Rattle.compute.proofs.Asked.{new-asked, kept-asked, keep_given}
use Prim.Native.Nat.{ℕ}
use Rattle.walks.proofs.Given.{facts}
use mathlib.Core.Path.{◌≡◌, refl, sym, ap, ◌∙◌}
use mathlib.Core.Bool.{false}
use borrow.Author.Rules.{rules}
use Rattle.style.specs.Style.{style_at}
use Rattle.style.specs.Flow.{is_leaf}
use Rattle.style.specs.declared.Measure.{Measure}
use Rattle.reader.specs.Reader.{kind_at, measure_at_lem}
use Rattle.steps.specs.Through.{leaf_output}
use Rattle.compute.proofs.OneTree.{leaf_laid_lem, is_block, block-laid}
use mathlib.Core.Path.{refl, ◌∙◌}
use borrow.Rule.Slice.PartMut.{same_len_mid}
use Rattle.reader.specs.Reader.{flow_at_lem}
use Rattle.compute.proofs.Counting.{shorter}
use Rattle.compute.proofs.Asked.{gone-placed, out-placed, in-placed}
use Rattle.compute.proofs.Twice.{settled-again, rest-again}
use mathlib.Core.Path.{refl}
use Rattle.tree.specs.Tree.{node}
use Rattle.compute.proofs.StackLoop.{begin, end, start_counts}
use Rattle.compute.proofs.+compute_block_layout_compute_child_layout_perform_final_layout_on_in_flow_children.Given as goal

abbrev pub decreases-perform_final_layout_on_in_flow_children : goal.decreases-perform_final_layout_on_in_flow_children
decreases-perform_final_layout_on_in_flow_children l = 3 * l.depth

abbrev pub decreases-compute_block_layout : goal.decreases-compute_block_layout
decreases-compute_block_layout l = 3 * l.depth + 1

abbrev pub decreases-compute_child_layout : goal.decreases-compute_child_layout
decreases-compute_child_layout l = 3 * l.depth + 2

abbrev pub invariant-perform_final_layout_on_in_flow_children-loop-child : goal.invariant-perform_final_layout_on_in_flow_children-loop-child
invariant-perform_final_layout_on_in_flow_children-loop-child l = (length l.rows ≡ length l.initial.rows) × (length l.marks ≡ length l.initial.marks) × (4 * l.child ≤ length l.words) × ((l.cursor.count ≤ l.child) × (l.cursor.shown.0 ≤ l.child))
    × ((k : Tree Cell) → TabledT l.words l.numbers l.initial.rows l.initial.marks l.edits l.base k → RestT l.words l.numbers l.rows l.marks l.edits l.base l.frame k l.cursor l.child)

abbrev pub decreases-perform_final_layout_on_in_flow_children-loop-child : goal.decreases-perform_final_layout_on_in_flow_children-loop-child
decreases-perform_final_layout_on_in_flow_children-loop-child l = length l.words - l.child
