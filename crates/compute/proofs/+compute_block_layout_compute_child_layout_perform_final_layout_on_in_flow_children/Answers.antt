use Prim.Native.Nat.{ℕ, ◌+◌, ◌*◌, ◌<◌}
use mathlib.Core.Path.{◌≡◌, ap, ◌∙◌}
use mathlib.Core.List.{List}
use Prim.Native.Nat.{ℕ, ◌+◌, ◌*◌, ◌-◌, ◌<◌, ◌≤◌}
use native.Mathlib.Omega.{arith}
use lib.ListN.{length, take, drop}
use lib.Ieee.{Float}
use borrow.Rule.Slice.PartMut.{put_mid, same_len_mid}
use Rattle.tree.specs.Tree.{Tree}
use Rattle.steps.specs.Page.{Cell}
use Rattle.steps.specs.Stack.{Counts}
use Rattle.steps.specs.declared.Cursor.{Cursor}
use Rattle.walks.specs.Tables.{TabledT, IsTree}
use Rattle.walks.proofs.Given.{Facts, facts}
use Rattle.compute.proofs.Counting.{counted_to}
use Rattle.compute.proofs.Asked.{PlacedT}
use Rattle.compute.proofs.StackLoop.{RestT, Turn, turn}
use Rattle.compute.proofs.Asked.{new-asked, kept-asked, keep_given}
use Prim.Native.Nat.{ℕ}
use Rattle.walks.proofs.Given.{facts}
use mathlib.Core.Path.{◌≡◌, refl, sym, ap, ◌∙◌}
use mathlib.Core.Bool.{false}
use borrow.Author.Rules.{rules}
use Rattle.style.specs.Style.{style_at}
use Rattle.style.specs.Flow.{is_leaf}
use Rattle.style.specs.declared.Measure.{Measure}
use Rattle.reader.specs.Reader.{kind_at, measure_at_lem}
use Rattle.steps.specs.Through.{leaf_output}
use Rattle.compute.proofs.OneTree.{leaf_laid_lem, is_block, block-laid}
use mathlib.Core.Path.{refl, ◌∙◌}
use borrow.Rule.Slice.PartMut.{same_len_mid}
use Rattle.reader.specs.Reader.{flow_at_lem}
use Rattle.compute.proofs.Counting.{shorter}
use Rattle.compute.proofs.Asked.{gone-placed, out-placed, in-placed}
use Rattle.compute.proofs.Twice.{settled-again, rest-again}
use mathlib.Core.Path.{refl}
use Rattle.tree.specs.Tree.{node}
use Rattle.compute.proofs.StackLoop.{begin, end, start_counts}
use Rattle.compute.proofs.+compute_block_layout_compute_child_layout_perform_final_layout_on_in_flow_children.Goals as goal

pub compute_child_layout-stands-requires : goal.compute_child_layout-stands-requires
compute_child_layout-stands-requires t c = let f = facts _ _ _ _ _ _ _ c.requires in f.room

pub compute_child_layout-output_in-output-requires : goal.compute_child_layout-output_in-output-requires
compute_child_layout-output_in-output-requires t c = let f = facts _ _ _ _ _ _ _ c.requires in f.room

pub compute_child_layout-slice_bounds-keep_below-count : goal.compute_child_layout-slice_bounds-keep_below-count
compute_child_layout-slice_bounds-keep_below-count t c = let f = facts _ _ _ _ _ _ _ c.requires in omega arith

pub compute_child_layout-slice_bounds-keep_below-start : goal.compute_child_layout-slice_bounds-keep_below-start
compute_child_layout-slice_bounds-keep_below-start t c = let f = facts _ _ _ _ _ _ _ c.requires in omega arith

pub compute_child_layout-slice_bounds-keep_below-end : goal.compute_child_layout-slice_bounds-keep_below-end
compute_child_layout-slice_bounds-keep_below-end t c = let f = facts _ _ _ _ _ _ _ c.requires in omega arith

pub compute_child_layout-slice_bounds-keep_below-count-then-stands : goal.compute_child_layout-slice_bounds-keep_below-count-then-stands
compute_child_layout-slice_bounds-keep_below-count-then-stands t c = let f = facts _ _ _ _ _ _ _ c.requires in omega arith

pub compute_child_layout-slice_bounds-keep_below-start-then-stands : goal.compute_child_layout-slice_bounds-keep_below-start-then-stands
compute_child_layout-slice_bounds-keep_below-start-then-stands t c = let f = facts _ _ _ _ _ _ _ c.requires in omega arith

pub compute_child_layout-slice_bounds-keep_below-end-then-stands : goal.compute_child_layout-slice_bounds-keep_below-end-then-stands
compute_child_layout-slice_bounds-keep_below-end-then-stands t c = let f = facts _ _ _ _ _ _ _ c.requires in omega arith

pub compute_child_layout-slice_bounds-keep_below-count-then-stands-2 : goal.compute_child_layout-slice_bounds-keep_below-count-then-stands-2
compute_child_layout-slice_bounds-keep_below-count-then-stands-2 t c = let f = facts _ _ _ _ _ _ _ c.requires in omega arith

pub compute_child_layout-slice_bounds-keep_below-start-then-stands-2 : goal.compute_child_layout-slice_bounds-keep_below-start-then-stands-2
compute_child_layout-slice_bounds-keep_below-start-then-stands-2 t c = let f = facts _ _ _ _ _ _ _ c.requires in omega arith

pub compute_child_layout-slice_bounds-keep_below-end-then-stands-2 : goal.compute_child_layout-slice_bounds-keep_below-end-then-stands-2
compute_child_layout-slice_bounds-keep_below-end-then-stands-2 t c = let f = facts _ _ _ _ _ _ _ c.requires in omega arith

pub compute_child_layout-keep_below-requires : goal.compute_child_layout-keep_below-requires
compute_child_layout-keep_below-requires t c = keep_given c.args.words.now c.args.numbers.now c.args.rows.now c.args.marks.now c.args.edits.now c.args.base c.args.depth c.requires

pub compute_child_layout-shape_of-rows-then-stands : goal.compute_child_layout-shape_of-rows-then-stands
compute_child_layout-shape_of-rows-then-stands t c = let f = facts _ _ _ _ _ _ _ c.requires in omega arith

pub compute_child_layout-shape_of-marks-then-stands : goal.compute_child_layout-shape_of-marks-then-stands
compute_child_layout-shape_of-marks-then-stands t c = let f = facts _ _ _ _ _ _ _ c.requires in omega arith

pub compute_child_layout-returns-then-stands : goal.compute_child_layout-returns-then-stands
compute_child_layout-returns-then-stands t c = kept-asked c.args.words.now c.args.numbers.now c.args.rows.now c.args.marks.now c.args.edits.now c.args.base c.args.input _ c.stands.ensures _ _ _ c.if-stands.true c.output_in-output.ensures c.keep_below.ensures

pub compute_child_layout-compute_block_layout-requires : goal.compute_child_layout-compute_block_layout-requires
compute_child_layout-compute_block_layout-requires t c = (omega (arith, c.decreases), c.requires)

pub compute_child_layout-shape_of-rows : goal.compute_child_layout-shape_of-rows
compute_child_layout-shape_of-rows t c = let f = facts _ _ _ _ _ _ _ c.requires in omega arith

pub compute_child_layout-shape_of-marks : goal.compute_child_layout-shape_of-marks
compute_child_layout-shape_of-marks t c = let f = facts _ _ _ _ _ _ _ c.requires in omega arith

pub compute_child_layout-returns : goal.compute_child_layout-returns
compute_child_layout-returns t c = new-asked c.args.words.now c.args.numbers.now c.args.rows.now c.args.marks.now c.args.edits.now c.args.base c.args.input _ c.stands.ensures _ _ _ c.if-stands.false c.compute_block_layout.ensures

pub compute_block_layout-is_leaf-requires : goal.compute_block_layout-is_leaf-requires
compute_block_layout-is_leaf-requires t c = let g = facts _ _ _ _ _ _ _ c.requires in g.words_some

pub compute_block_layout-put_leaf-requires : goal.compute_block_layout-put_leaf-requires
compute_block_layout-put_leaf-requires t c = let g = facts _ _ _ _ _ _ _ c.requires in g.room

pub compute_block_layout-shape_of-rows-then-is_leaf : goal.compute_block_layout-shape_of-rows-then-is_leaf
compute_block_layout-shape_of-rows-then-is_leaf t c = let g = facts _ _ _ _ _ _ _ c.requires in omega arith

pub compute_block_layout-shape_of-marks-then-is_leaf : goal.compute_block_layout-shape_of-marks-then-is_leaf
compute_block_layout-shape_of-marks-then-is_leaf t c = let g = facts _ _ _ _ _ _ _ c.requires in omega arith

pub compute_block_layout-returns-then-is_leaf : goal.compute_block_layout-returns-then-is_leaf
compute_block_layout-returns-then-is_leaf t c = leaf_laid_lem c.args.words.now c.args.numbers.now c.args.rows.now c.args.marks.now c.args.edits.now c.args.base c.args.input c.args.found _ _ _ _ refl (ap is_leaf (sym (kind_at c.args.words.now c.args.numbers.now c.args.base)) ∙ sym c.is_leaf.ensures ∙ c.if-is_leaf.true) (c.leaf_at-output.ensures ∙ ap (λ (m : Measure). leaf_output m c.args.input) (measure_at_lem c.args.words.now c.args.numbers.now c.args.base)) c.put_leaf.ensures

pub compute_block_layout-frame_at-frame-requires : goal.compute_block_layout-frame_at-frame-requires
compute_block_layout-frame_at-frame-requires t c = let g = facts _ _ _ _ _ _ _ c.requires in (g.words_some, g.reach)

pub compute_block_layout-perform_final_layout_on_in_flow_children-stack-requires : goal.compute_block_layout-perform_final_layout_on_in_flow_children-stack-requires
compute_block_layout-perform_final_layout_on_in_flow_children-stack-requires t c = (omega (arith, c.decreases), c.requires)

pub compute_block_layout-finish-requires : goal.compute_block_layout-finish-requires
compute_block_layout-finish-requires t c = let plain : c.is_leaf.result ≡ false → is_leaf (style_at c.args.words.now 0 c.args.numbers.now c.args.base).kind ≡ false = λ left. ap is_leaf (sym (kind_at c.args.words.now c.args.numbers.now c.args.base)) ∙ sym c.is_leaf.ensures ∙ left in is_block c.args.words.now c.args.numbers.now c.args.rows.now c.args.marks.now c.args.edits.now c.args.base c.args.input c.args.found _ _ _ _ _ refl (plain c.if-is_leaf.false) c.frame_at-frame.ensures c.perform_final_layout_on_in_flow_children-stack.ensures c.args.depth c.requires

pub compute_block_layout-returns : goal.compute_block_layout-returns
compute_block_layout-returns t c = let plain : c.is_leaf.result ≡ false → is_leaf (style_at c.args.words.now 0 c.args.numbers.now c.args.base).kind ≡ false = λ left. ap is_leaf (sym (kind_at c.args.words.now c.args.numbers.now c.args.base)) ∙ sym c.is_leaf.ensures ∙ left in block-laid c.args.words.now c.args.numbers.now c.args.rows.now c.args.marks.now c.args.edits.now c.args.base c.args.input c.args.found _ _ _ _ _ refl (plain c.if-is_leaf.false) c.frame_at-frame.ensures c.perform_final_layout_on_in_flow_children-stack.ensures _ _ _ c.finish.ensures

pub perform_final_layout_on_in_flow_children-overflow_cast-end : goal.perform_final_layout_on_in_flow_children-overflow_cast-end
perform_final_layout_on_in_flow_children-overflow_cast-end t c = let next : ℕ = c.loop-child.child + c.word_in.result in let given : Facts c.args.words.now c.args.numbers.now c.args.rows.now c.args.marks.now c.args.edits.now c.args.base c.args.depth = facts _ _ _ _ _ _ _ c.requires in let Tabled : Tree Cell → Type 0 = λ k. TabledT c.args.words.now c.args.numbers.now c.args.rows.now c.args.marks.now c.args.edits.now c.args.base k in let turning : (k : Tree Cell) → Tabled k → Turn c.args.words.now c.args.numbers.now c.loop-child.rows c.loop-child.marks c.args.edits.now c.args.base c.args.frame k c.loop-child.cursor c.loop-child.child (next) = λ k h. turn _ _ _ _ _ _ _ k _ _ _ (ap (λ (n : ℕ). c.loop-child.child + n) c.word_in.ensures) (c.loop-child.invariant.4 k h) c.loop-child-test.true in let turned : Turn c.args.words.now c.args.numbers.now c.loop-child.rows c.loop-child.marks c.args.edits.now c.args.base c.args.frame c.requires.tree c.loop-child.cursor c.loop-child.child (next) = turning c.requires.tree c.requires.tabled in let f = turned in let g = given in omega arith

pub perform_final_layout_on_in_flow_children-overflow_add-end : goal.perform_final_layout_on_in_flow_children-overflow_add-end
perform_final_layout_on_in_flow_children-overflow_add-end t c = let next : ℕ = c.loop-child.child + c.word_in.result in let given : Facts c.args.words.now c.args.numbers.now c.args.rows.now c.args.marks.now c.args.edits.now c.args.base c.args.depth = facts _ _ _ _ _ _ _ c.requires in let Tabled : Tree Cell → Type 0 = λ k. TabledT c.args.words.now c.args.numbers.now c.args.rows.now c.args.marks.now c.args.edits.now c.args.base k in let turning : (k : Tree Cell) → Tabled k → Turn c.args.words.now c.args.numbers.now c.loop-child.rows c.loop-child.marks c.args.edits.now c.args.base c.args.frame k c.loop-child.cursor c.loop-child.child (next) = λ k h. turn _ _ _ _ _ _ _ k _ _ _ (ap (λ (n : ℕ). c.loop-child.child + n) c.word_in.ensures) (c.loop-child.invariant.4 k h) c.loop-child-test.true in let turned : Turn c.args.words.now c.args.numbers.now c.loop-child.rows c.loop-child.marks c.args.edits.now c.args.base c.args.frame c.requires.tree c.loop-child.cursor c.loop-child.child (next) = turning c.requires.tree c.requires.tabled in let f = turned in let g = given in omega arith

pub perform_final_layout_on_in_flow_children-overflow_mul-w0 : goal.perform_final_layout_on_in_flow_children-overflow_mul-w0
perform_final_layout_on_in_flow_children-overflow_mul-w0 t c = let next : ℕ = c.loop-child.child + c.word_in.result in let given : Facts c.args.words.now c.args.numbers.now c.args.rows.now c.args.marks.now c.args.edits.now c.args.base c.args.depth = facts _ _ _ _ _ _ _ c.requires in let Tabled : Tree Cell → Type 0 = λ k. TabledT c.args.words.now c.args.numbers.now c.args.rows.now c.args.marks.now c.args.edits.now c.args.base k in let turning : (k : Tree Cell) → Tabled k → Turn c.args.words.now c.args.numbers.now c.loop-child.rows c.loop-child.marks c.args.edits.now c.args.base c.args.frame k c.loop-child.cursor c.loop-child.child (next) = λ k h. turn _ _ _ _ _ _ _ k _ _ _ (ap (λ (n : ℕ). c.loop-child.child + n) c.word_in.ensures) (c.loop-child.invariant.4 k h) c.loop-child-test.true in let turned : Turn c.args.words.now c.args.numbers.now c.loop-child.rows c.loop-child.marks c.args.edits.now c.args.base c.args.frame c.requires.tree c.loop-child.cursor c.loop-child.child (next) = turning c.requires.tree c.requires.tabled in let f = turned in let g = given in omega arith

pub perform_final_layout_on_in_flow_children-overflow_mul-w1 : goal.perform_final_layout_on_in_flow_children-overflow_mul-w1
perform_final_layout_on_in_flow_children-overflow_mul-w1 t c = let next : ℕ = c.loop-child.child + c.word_in.result in let given : Facts c.args.words.now c.args.numbers.now c.args.rows.now c.args.marks.now c.args.edits.now c.args.base c.args.depth = facts _ _ _ _ _ _ _ c.requires in let Tabled : Tree Cell → Type 0 = λ k. TabledT c.args.words.now c.args.numbers.now c.args.rows.now c.args.marks.now c.args.edits.now c.args.base k in let turning : (k : Tree Cell) → Tabled k → Turn c.args.words.now c.args.numbers.now c.loop-child.rows c.loop-child.marks c.args.edits.now c.args.base c.args.frame k c.loop-child.cursor c.loop-child.child (next) = λ k h. turn _ _ _ _ _ _ _ k _ _ _ (ap (λ (n : ℕ). c.loop-child.child + n) c.word_in.ensures) (c.loop-child.invariant.4 k h) c.loop-child-test.true in let turned : Turn c.args.words.now c.args.numbers.now c.loop-child.rows c.loop-child.marks c.args.edits.now c.args.base c.args.frame c.requires.tree c.loop-child.cursor c.loop-child.child (next) = turning c.requires.tree c.requires.tabled in let f = turned in let g = given in omega arith

pub perform_final_layout_on_in_flow_children-overflow_mul-r0 : goal.perform_final_layout_on_in_flow_children-overflow_mul-r0
perform_final_layout_on_in_flow_children-overflow_mul-r0 t c = let next : ℕ = c.loop-child.child + c.word_in.result in let given : Facts c.args.words.now c.args.numbers.now c.args.rows.now c.args.marks.now c.args.edits.now c.args.base c.args.depth = facts _ _ _ _ _ _ _ c.requires in let Tabled : Tree Cell → Type 0 = λ k. TabledT c.args.words.now c.args.numbers.now c.args.rows.now c.args.marks.now c.args.edits.now c.args.base k in let turning : (k : Tree Cell) → Tabled k → Turn c.args.words.now c.args.numbers.now c.loop-child.rows c.loop-child.marks c.args.edits.now c.args.base c.args.frame k c.loop-child.cursor c.loop-child.child (next) = λ k h. turn _ _ _ _ _ _ _ k _ _ _ (ap (λ (n : ℕ). c.loop-child.child + n) c.word_in.ensures) (c.loop-child.invariant.4 k h) c.loop-child-test.true in let turned : Turn c.args.words.now c.args.numbers.now c.loop-child.rows c.loop-child.marks c.args.edits.now c.args.base c.args.frame c.requires.tree c.loop-child.cursor c.loop-child.child (next) = turning c.requires.tree c.requires.tabled in let f = turned in let g = given in omega arith

pub perform_final_layout_on_in_flow_children-overflow_mul-r1 : goal.perform_final_layout_on_in_flow_children-overflow_mul-r1
perform_final_layout_on_in_flow_children-overflow_mul-r1 t c = let next : ℕ = c.loop-child.child + c.word_in.result in let given : Facts c.args.words.now c.args.numbers.now c.args.rows.now c.args.marks.now c.args.edits.now c.args.base c.args.depth = facts _ _ _ _ _ _ _ c.requires in let Tabled : Tree Cell → Type 0 = λ k. TabledT c.args.words.now c.args.numbers.now c.args.rows.now c.args.marks.now c.args.edits.now c.args.base k in let turning : (k : Tree Cell) → Tabled k → Turn c.args.words.now c.args.numbers.now c.loop-child.rows c.loop-child.marks c.args.edits.now c.args.base c.args.frame k c.loop-child.cursor c.loop-child.child (next) = λ k h. turn _ _ _ _ _ _ _ k _ _ _ (ap (λ (n : ℕ). c.loop-child.child + n) c.word_in.ensures) (c.loop-child.invariant.4 k h) c.loop-child-test.true in let turned : Turn c.args.words.now c.args.numbers.now c.loop-child.rows c.loop-child.marks c.args.edits.now c.args.base c.args.frame c.requires.tree c.loop-child.cursor c.loop-child.child (next) = turning c.requires.tree c.requires.tabled in let f = turned in let g = given in omega arith

pub perform_final_layout_on_in_flow_children-overflow_mul-m0 : goal.perform_final_layout_on_in_flow_children-overflow_mul-m0
perform_final_layout_on_in_flow_children-overflow_mul-m0 t c = let next : ℕ = c.loop-child.child + c.word_in.result in let given : Facts c.args.words.now c.args.numbers.now c.args.rows.now c.args.marks.now c.args.edits.now c.args.base c.args.depth = facts _ _ _ _ _ _ _ c.requires in let Tabled : Tree Cell → Type 0 = λ k. TabledT c.args.words.now c.args.numbers.now c.args.rows.now c.args.marks.now c.args.edits.now c.args.base k in let turning : (k : Tree Cell) → Tabled k → Turn c.args.words.now c.args.numbers.now c.loop-child.rows c.loop-child.marks c.args.edits.now c.args.base c.args.frame k c.loop-child.cursor c.loop-child.child (next) = λ k h. turn _ _ _ _ _ _ _ k _ _ _ (ap (λ (n : ℕ). c.loop-child.child + n) c.word_in.ensures) (c.loop-child.invariant.4 k h) c.loop-child-test.true in let turned : Turn c.args.words.now c.args.numbers.now c.loop-child.rows c.loop-child.marks c.args.edits.now c.args.base c.args.frame c.requires.tree c.loop-child.cursor c.loop-child.child (next) = turning c.requires.tree c.requires.tabled in let f = turned in let g = given in omega arith

pub perform_final_layout_on_in_flow_children-overflow_mul-m1 : goal.perform_final_layout_on_in_flow_children-overflow_mul-m1
perform_final_layout_on_in_flow_children-overflow_mul-m1 t c = let next : ℕ = c.loop-child.child + c.word_in.result in let given : Facts c.args.words.now c.args.numbers.now c.args.rows.now c.args.marks.now c.args.edits.now c.args.base c.args.depth = facts _ _ _ _ _ _ _ c.requires in let Tabled : Tree Cell → Type 0 = λ k. TabledT c.args.words.now c.args.numbers.now c.args.rows.now c.args.marks.now c.args.edits.now c.args.base k in let turning : (k : Tree Cell) → Tabled k → Turn c.args.words.now c.args.numbers.now c.loop-child.rows c.loop-child.marks c.args.edits.now c.args.base c.args.frame k c.loop-child.cursor c.loop-child.child (next) = λ k h. turn _ _ _ _ _ _ _ k _ _ _ (ap (λ (n : ℕ). c.loop-child.child + n) c.word_in.ensures) (c.loop-child.invariant.4 k h) c.loop-child-test.true in let turned : Turn c.args.words.now c.args.numbers.now c.loop-child.rows c.loop-child.marks c.args.edits.now c.args.base c.args.frame c.requires.tree c.loop-child.cursor c.loop-child.child (next) = turning c.requires.tree c.requires.tabled in let f = turned in let g = given in omega arith

pub perform_final_layout_on_in_flow_children-offset_bounds-words-w0 : goal.perform_final_layout_on_in_flow_children-offset_bounds-words-w0
perform_final_layout_on_in_flow_children-offset_bounds-words-w0 t c = let next : ℕ = c.loop-child.child + c.word_in.result in let given : Facts c.args.words.now c.args.numbers.now c.args.rows.now c.args.marks.now c.args.edits.now c.args.base c.args.depth = facts _ _ _ _ _ _ _ c.requires in let Tabled : Tree Cell → Type 0 = λ k. TabledT c.args.words.now c.args.numbers.now c.args.rows.now c.args.marks.now c.args.edits.now c.args.base k in let turning : (k : Tree Cell) → Tabled k → Turn c.args.words.now c.args.numbers.now c.loop-child.rows c.loop-child.marks c.args.edits.now c.args.base c.args.frame k c.loop-child.cursor c.loop-child.child (next) = λ k h. turn _ _ _ _ _ _ _ k _ _ _ (ap (λ (n : ℕ). c.loop-child.child + n) c.word_in.ensures) (c.loop-child.invariant.4 k h) c.loop-child-test.true in let turned : Turn c.args.words.now c.args.numbers.now c.loop-child.rows c.loop-child.marks c.args.edits.now c.args.base c.args.frame c.requires.tree c.loop-child.cursor c.loop-child.child (next) = turning c.requires.tree c.requires.tabled in let f = turned in let g = given in omega arith

pub perform_final_layout_on_in_flow_children-slice_bounds-flow-count : goal.perform_final_layout_on_in_flow_children-slice_bounds-flow-count
perform_final_layout_on_in_flow_children-slice_bounds-flow-count t c = let next : ℕ = c.loop-child.child + c.word_in.result in let given : Facts c.args.words.now c.args.numbers.now c.args.rows.now c.args.marks.now c.args.edits.now c.args.base c.args.depth = facts _ _ _ _ _ _ _ c.requires in let Tabled : Tree Cell → Type 0 = λ k. TabledT c.args.words.now c.args.numbers.now c.args.rows.now c.args.marks.now c.args.edits.now c.args.base k in let turning : (k : Tree Cell) → Tabled k → Turn c.args.words.now c.args.numbers.now c.loop-child.rows c.loop-child.marks c.args.edits.now c.args.base c.args.frame k c.loop-child.cursor c.loop-child.child (next) = λ k h. turn _ _ _ _ _ _ _ k _ _ _ (ap (λ (n : ℕ). c.loop-child.child + n) c.word_in.ensures) (c.loop-child.invariant.4 k h) c.loop-child-test.true in let turned : Turn c.args.words.now c.args.numbers.now c.loop-child.rows c.loop-child.marks c.args.edits.now c.args.base c.args.frame c.requires.tree c.loop-child.cursor c.loop-child.child (next) = turning c.requires.tree c.requires.tabled in let f = turned in let g = given in omega arith

pub perform_final_layout_on_in_flow_children-slice_bounds-flow-start : goal.perform_final_layout_on_in_flow_children-slice_bounds-flow-start
perform_final_layout_on_in_flow_children-slice_bounds-flow-start t c = let next : ℕ = c.loop-child.child + c.word_in.result in let given : Facts c.args.words.now c.args.numbers.now c.args.rows.now c.args.marks.now c.args.edits.now c.args.base c.args.depth = facts _ _ _ _ _ _ _ c.requires in let Tabled : Tree Cell → Type 0 = λ k. TabledT c.args.words.now c.args.numbers.now c.args.rows.now c.args.marks.now c.args.edits.now c.args.base k in let turning : (k : Tree Cell) → Tabled k → Turn c.args.words.now c.args.numbers.now c.loop-child.rows c.loop-child.marks c.args.edits.now c.args.base c.args.frame k c.loop-child.cursor c.loop-child.child (next) = λ k h. turn _ _ _ _ _ _ _ k _ _ _ (ap (λ (n : ℕ). c.loop-child.child + n) c.word_in.ensures) (c.loop-child.invariant.4 k h) c.loop-child-test.true in let turned : Turn c.args.words.now c.args.numbers.now c.loop-child.rows c.loop-child.marks c.args.edits.now c.args.base c.args.frame c.requires.tree c.loop-child.cursor c.loop-child.child (next) = turning c.requires.tree c.requires.tabled in let f = turned in let g = given in omega arith

pub perform_final_layout_on_in_flow_children-slice_bounds-flow-end : goal.perform_final_layout_on_in_flow_children-slice_bounds-flow-end
perform_final_layout_on_in_flow_children-slice_bounds-flow-end t c = let next : ℕ = c.loop-child.child + c.word_in.result in let given : Facts c.args.words.now c.args.numbers.now c.args.rows.now c.args.marks.now c.args.edits.now c.args.base c.args.depth = facts _ _ _ _ _ _ _ c.requires in let Tabled : Tree Cell → Type 0 = λ k. TabledT c.args.words.now c.args.numbers.now c.args.rows.now c.args.marks.now c.args.edits.now c.args.base k in let turning : (k : Tree Cell) → Tabled k → Turn c.args.words.now c.args.numbers.now c.loop-child.rows c.loop-child.marks c.args.edits.now c.args.base c.args.frame k c.loop-child.cursor c.loop-child.child (next) = λ k h. turn _ _ _ _ _ _ _ k _ _ _ (ap (λ (n : ℕ). c.loop-child.child + n) c.word_in.ensures) (c.loop-child.invariant.4 k h) c.loop-child-test.true in let turned : Turn c.args.words.now c.args.numbers.now c.loop-child.rows c.loop-child.marks c.args.edits.now c.args.base c.args.frame c.requires.tree c.loop-child.cursor c.loop-child.child (next) = turning c.requires.tree c.requires.tabled in let f = turned in let g = given in omega arith

pub perform_final_layout_on_in_flow_children-flow-flow-requires : goal.perform_final_layout_on_in_flow_children-flow-flow-requires
perform_final_layout_on_in_flow_children-flow-flow-requires t c = let next : ℕ = c.loop-child.child + c.word_in.result in let Tabled : Tree Cell → Type 0 = λ k. TabledT c.args.words.now c.args.numbers.now c.args.rows.now c.args.marks.now c.args.edits.now c.args.base k in let turning : (k : Tree Cell) → Tabled k → Turn c.args.words.now c.args.numbers.now c.loop-child.rows c.loop-child.marks c.args.edits.now c.args.base c.args.frame k c.loop-child.cursor c.loop-child.child (next) = λ k h. turn _ _ _ _ _ _ _ k _ _ _ (ap (λ (n : ℕ). c.loop-child.child + n) c.word_in.ensures) (c.loop-child.invariant.4 k h) c.loop-child-test.true in let turned : Turn c.args.words.now c.args.numbers.now c.loop-child.rows c.loop-child.marks c.args.edits.now c.args.base c.args.frame c.requires.tree c.loop-child.cursor c.loop-child.child (next) = turning c.requires.tree c.requires.tabled in let its-words : List ℕ = take (4 * next - 4 * c.loop-child.child) (drop (4 * c.loop-child.child) c.args.words.now) in let its-rows : List Float = take (16 * next - 16 * c.loop-child.child) (drop (16 * c.loop-child.child) c.loop-child.rows) in let its-marks : List ℕ = take (2 * next - 2 * c.loop-child.child) (drop (2 * c.loop-child.child) c.loop-child.marks) in let child : IsTree (its-words) c.args.numbers.now (its-rows) (its-marks) c.args.edits.now (c.args.base + c.loop-child.child) (c.args.depth - 1) = let f = turned in let w = c.requires.fit in let u = c.requires.reach in let v = c.requires.tabled.words_long in record { tree = f.tree; tabled = f.tabled; deep = f.shallow c.args.depth c.requires.deep; fit = omega arith; reach = omega arith } in (facts _ _ _ _ _ _ _ (child)).words_some

pub perform_final_layout_on_in_flow_children-offset_bounds-rows-r0 : goal.perform_final_layout_on_in_flow_children-offset_bounds-rows-r0
perform_final_layout_on_in_flow_children-offset_bounds-rows-r0 t c = let next : ℕ = c.loop-child.child + c.word_in.result in let given : Facts c.args.words.now c.args.numbers.now c.args.rows.now c.args.marks.now c.args.edits.now c.args.base c.args.depth = facts _ _ _ _ _ _ _ c.requires in let Tabled : Tree Cell → Type 0 = λ k. TabledT c.args.words.now c.args.numbers.now c.args.rows.now c.args.marks.now c.args.edits.now c.args.base k in let turning : (k : Tree Cell) → Tabled k → Turn c.args.words.now c.args.numbers.now c.loop-child.rows c.loop-child.marks c.args.edits.now c.args.base c.args.frame k c.loop-child.cursor c.loop-child.child (next) = λ k h. turn _ _ _ _ _ _ _ k _ _ _ (ap (λ (n : ℕ). c.loop-child.child + n) c.word_in.ensures) (c.loop-child.invariant.4 k h) c.loop-child-test.true in let turned : Turn c.args.words.now c.args.numbers.now c.loop-child.rows c.loop-child.marks c.args.edits.now c.args.base c.args.frame c.requires.tree c.loop-child.cursor c.loop-child.child (next) = turning c.requires.tree c.requires.tabled in let f = turned in let g = given in omega arith

pub perform_final_layout_on_in_flow_children-slice_bounds-pass_hidden-count : goal.perform_final_layout_on_in_flow_children-slice_bounds-pass_hidden-count
perform_final_layout_on_in_flow_children-slice_bounds-pass_hidden-count t c = let next : ℕ = c.loop-child.child + c.word_in.result in let given : Facts c.args.words.now c.args.numbers.now c.args.rows.now c.args.marks.now c.args.edits.now c.args.base c.args.depth = facts _ _ _ _ _ _ _ c.requires in let Tabled : Tree Cell → Type 0 = λ k. TabledT c.args.words.now c.args.numbers.now c.args.rows.now c.args.marks.now c.args.edits.now c.args.base k in let turning : (k : Tree Cell) → Tabled k → Turn c.args.words.now c.args.numbers.now c.loop-child.rows c.loop-child.marks c.args.edits.now c.args.base c.args.frame k c.loop-child.cursor c.loop-child.child (next) = λ k h. turn _ _ _ _ _ _ _ k _ _ _ (ap (λ (n : ℕ). c.loop-child.child + n) c.word_in.ensures) (c.loop-child.invariant.4 k h) c.loop-child-test.true in let turned : Turn c.args.words.now c.args.numbers.now c.loop-child.rows c.loop-child.marks c.args.edits.now c.args.base c.args.frame c.requires.tree c.loop-child.cursor c.loop-child.child (next) = turning c.requires.tree c.requires.tabled in let f = turned in let g = given in omega arith

pub perform_final_layout_on_in_flow_children-slice_bounds-pass_hidden-start : goal.perform_final_layout_on_in_flow_children-slice_bounds-pass_hidden-start
perform_final_layout_on_in_flow_children-slice_bounds-pass_hidden-start t c = let next : ℕ = c.loop-child.child + c.word_in.result in let given : Facts c.args.words.now c.args.numbers.now c.args.rows.now c.args.marks.now c.args.edits.now c.args.base c.args.depth = facts _ _ _ _ _ _ _ c.requires in let Tabled : Tree Cell → Type 0 = λ k. TabledT c.args.words.now c.args.numbers.now c.args.rows.now c.args.marks.now c.args.edits.now c.args.base k in let turning : (k : Tree Cell) → Tabled k → Turn c.args.words.now c.args.numbers.now c.loop-child.rows c.loop-child.marks c.args.edits.now c.args.base c.args.frame k c.loop-child.cursor c.loop-child.child (next) = λ k h. turn _ _ _ _ _ _ _ k _ _ _ (ap (λ (n : ℕ). c.loop-child.child + n) c.word_in.ensures) (c.loop-child.invariant.4 k h) c.loop-child-test.true in let turned : Turn c.args.words.now c.args.numbers.now c.loop-child.rows c.loop-child.marks c.args.edits.now c.args.base c.args.frame c.requires.tree c.loop-child.cursor c.loop-child.child (next) = turning c.requires.tree c.requires.tabled in let f = turned in let g = given in omega arith

pub perform_final_layout_on_in_flow_children-slice_bounds-pass_hidden-end : goal.perform_final_layout_on_in_flow_children-slice_bounds-pass_hidden-end
perform_final_layout_on_in_flow_children-slice_bounds-pass_hidden-end t c = let next : ℕ = c.loop-child.child + c.word_in.result in let given : Facts c.args.words.now c.args.numbers.now c.args.rows.now c.args.marks.now c.args.edits.now c.args.base c.args.depth = facts _ _ _ _ _ _ _ c.requires in let Tabled : Tree Cell → Type 0 = λ k. TabledT c.args.words.now c.args.numbers.now c.args.rows.now c.args.marks.now c.args.edits.now c.args.base k in let turning : (k : Tree Cell) → Tabled k → Turn c.args.words.now c.args.numbers.now c.loop-child.rows c.loop-child.marks c.args.edits.now c.args.base c.args.frame k c.loop-child.cursor c.loop-child.child (next) = λ k h. turn _ _ _ _ _ _ _ k _ _ _ (ap (λ (n : ℕ). c.loop-child.child + n) c.word_in.ensures) (c.loop-child.invariant.4 k h) c.loop-child-test.true in let turned : Turn c.args.words.now c.args.numbers.now c.loop-child.rows c.loop-child.marks c.args.edits.now c.args.base c.args.frame c.requires.tree c.loop-child.cursor c.loop-child.child (next) = turning c.requires.tree c.requires.tabled in let f = turned in let g = given in omega arith

pub perform_final_layout_on_in_flow_children-offset_bounds-marks-m0 : goal.perform_final_layout_on_in_flow_children-offset_bounds-marks-m0
perform_final_layout_on_in_flow_children-offset_bounds-marks-m0 t c = let next : ℕ = c.loop-child.child + c.word_in.result in let given : Facts c.args.words.now c.args.numbers.now c.args.rows.now c.args.marks.now c.args.edits.now c.args.base c.args.depth = facts _ _ _ _ _ _ _ c.requires in let Tabled : Tree Cell → Type 0 = λ k. TabledT c.args.words.now c.args.numbers.now c.args.rows.now c.args.marks.now c.args.edits.now c.args.base k in let turning : (k : Tree Cell) → Tabled k → Turn c.args.words.now c.args.numbers.now c.loop-child.rows c.loop-child.marks c.args.edits.now c.args.base c.args.frame k c.loop-child.cursor c.loop-child.child (next) = λ k h. turn _ _ _ _ _ _ _ k _ _ _ (ap (λ (n : ℕ). c.loop-child.child + n) c.word_in.ensures) (c.loop-child.invariant.4 k h) c.loop-child-test.true in let turned : Turn c.args.words.now c.args.numbers.now c.loop-child.rows c.loop-child.marks c.args.edits.now c.args.base c.args.frame c.requires.tree c.loop-child.cursor c.loop-child.child (next) = turning c.requires.tree c.requires.tabled in let f = turned in let g = given in omega arith

pub perform_final_layout_on_in_flow_children-slice_bounds-pass_hidden-count-in-Gone : goal.perform_final_layout_on_in_flow_children-slice_bounds-pass_hidden-count-in-Gone
perform_final_layout_on_in_flow_children-slice_bounds-pass_hidden-count-in-Gone t c = let next : ℕ = c.loop-child.child + c.word_in.result in let given : Facts c.args.words.now c.args.numbers.now c.args.rows.now c.args.marks.now c.args.edits.now c.args.base c.args.depth = facts _ _ _ _ _ _ _ c.requires in let Tabled : Tree Cell → Type 0 = λ k. TabledT c.args.words.now c.args.numbers.now c.args.rows.now c.args.marks.now c.args.edits.now c.args.base k in let turning : (k : Tree Cell) → Tabled k → Turn c.args.words.now c.args.numbers.now c.loop-child.rows c.loop-child.marks c.args.edits.now c.args.base c.args.frame k c.loop-child.cursor c.loop-child.child (next) = λ k h. turn _ _ _ _ _ _ _ k _ _ _ (ap (λ (n : ℕ). c.loop-child.child + n) c.word_in.ensures) (c.loop-child.invariant.4 k h) c.loop-child-test.true in let turned : Turn c.args.words.now c.args.numbers.now c.loop-child.rows c.loop-child.marks c.args.edits.now c.args.base c.args.frame c.requires.tree c.loop-child.cursor c.loop-child.child (next) = turning c.requires.tree c.requires.tabled in let f = turned in let g = given in omega arith

pub perform_final_layout_on_in_flow_children-slice_bounds-pass_hidden-start-in-Gone : goal.perform_final_layout_on_in_flow_children-slice_bounds-pass_hidden-start-in-Gone
perform_final_layout_on_in_flow_children-slice_bounds-pass_hidden-start-in-Gone t c = let next : ℕ = c.loop-child.child + c.word_in.result in let given : Facts c.args.words.now c.args.numbers.now c.args.rows.now c.args.marks.now c.args.edits.now c.args.base c.args.depth = facts _ _ _ _ _ _ _ c.requires in let Tabled : Tree Cell → Type 0 = λ k. TabledT c.args.words.now c.args.numbers.now c.args.rows.now c.args.marks.now c.args.edits.now c.args.base k in let turning : (k : Tree Cell) → Tabled k → Turn c.args.words.now c.args.numbers.now c.loop-child.rows c.loop-child.marks c.args.edits.now c.args.base c.args.frame k c.loop-child.cursor c.loop-child.child (next) = λ k h. turn _ _ _ _ _ _ _ k _ _ _ (ap (λ (n : ℕ). c.loop-child.child + n) c.word_in.ensures) (c.loop-child.invariant.4 k h) c.loop-child-test.true in let turned : Turn c.args.words.now c.args.numbers.now c.loop-child.rows c.loop-child.marks c.args.edits.now c.args.base c.args.frame c.requires.tree c.loop-child.cursor c.loop-child.child (next) = turning c.requires.tree c.requires.tabled in let f = turned in let g = given in omega arith

pub perform_final_layout_on_in_flow_children-slice_bounds-pass_hidden-end-in-Gone : goal.perform_final_layout_on_in_flow_children-slice_bounds-pass_hidden-end-in-Gone
perform_final_layout_on_in_flow_children-slice_bounds-pass_hidden-end-in-Gone t c = let next : ℕ = c.loop-child.child + c.word_in.result in let given : Facts c.args.words.now c.args.numbers.now c.args.rows.now c.args.marks.now c.args.edits.now c.args.base c.args.depth = facts _ _ _ _ _ _ _ c.requires in let Tabled : Tree Cell → Type 0 = λ k. TabledT c.args.words.now c.args.numbers.now c.args.rows.now c.args.marks.now c.args.edits.now c.args.base k in let turning : (k : Tree Cell) → Tabled k → Turn c.args.words.now c.args.numbers.now c.loop-child.rows c.loop-child.marks c.args.edits.now c.args.base c.args.frame k c.loop-child.cursor c.loop-child.child (next) = λ k h. turn _ _ _ _ _ _ _ k _ _ _ (ap (λ (n : ℕ). c.loop-child.child + n) c.word_in.ensures) (c.loop-child.invariant.4 k h) c.loop-child-test.true in let turned : Turn c.args.words.now c.args.numbers.now c.loop-child.rows c.loop-child.marks c.args.edits.now c.args.base c.args.frame c.requires.tree c.loop-child.cursor c.loop-child.child (next) = turning c.requires.tree c.requires.tabled in let f = turned in let g = given in omega arith

pub perform_final_layout_on_in_flow_children-pass_hidden-cursor-requires : goal.perform_final_layout_on_in_flow_children-pass_hidden-cursor-requires
perform_final_layout_on_in_flow_children-pass_hidden-cursor-requires t c = let next : ℕ = c.loop-child.child + c.word_in.result in let given : Facts c.args.words.now c.args.numbers.now c.args.rows.now c.args.marks.now c.args.edits.now c.args.base c.args.depth = facts _ _ _ _ _ _ _ c.requires in let Tabled : Tree Cell → Type 0 = λ k. TabledT c.args.words.now c.args.numbers.now c.args.rows.now c.args.marks.now c.args.edits.now c.args.base k in let turning : (k : Tree Cell) → Tabled k → Turn c.args.words.now c.args.numbers.now c.loop-child.rows c.loop-child.marks c.args.edits.now c.args.base c.args.frame k c.loop-child.cursor c.loop-child.child (next) = λ k h. turn _ _ _ _ _ _ _ k _ _ _ (ap (λ (n : ℕ). c.loop-child.child + n) c.word_in.ensures) (c.loop-child.invariant.4 k h) c.loop-child-test.true in let turned : Turn c.args.words.now c.args.numbers.now c.loop-child.rows c.loop-child.marks c.args.edits.now c.args.base c.args.frame c.requires.tree c.loop-child.cursor c.loop-child.child (next) = turning c.requires.tree c.requires.tabled in let its-words : List ℕ = take (4 * next - 4 * c.loop-child.child) (drop (4 * c.loop-child.child) c.args.words.now) in let its-rows : List Float = take (16 * next - 16 * c.loop-child.child) (drop (16 * c.loop-child.child) c.loop-child.rows) in let its-marks : List ℕ = take (2 * next - 2 * c.loop-child.child) (drop (2 * c.loop-child.child) c.loop-child.marks) in let child : IsTree (its-words) c.args.numbers.now (its-rows) (its-marks) c.args.edits.now (c.args.base + c.loop-child.child) (c.args.depth - 1) = let f = turned in let w = c.requires.fit in let u = c.requires.reach in let v = c.requires.tabled.words_long in record { tree = f.tree; tabled = f.tabled; deep = f.shallow c.args.depth c.requires.deep; fit = omega arith; reach = omega arith } in let counts : Counts c.loop-child.cursor = let f = turned in let g = given in let i = c.loop-child.invariant in record { shown = omega (arith, i.3.1); count = omega (arith, i.3.0) } in record { room = (facts _ _ _ _ _ _ _ (child)).room; counts = counts }

pub perform_final_layout_on_in_flow_children-offset_bounds-rows-r0-in-Out : goal.perform_final_layout_on_in_flow_children-offset_bounds-rows-r0-in-Out
perform_final_layout_on_in_flow_children-offset_bounds-rows-r0-in-Out t c = let next : ℕ = c.loop-child.child + c.word_in.result in let given : Facts c.args.words.now c.args.numbers.now c.args.rows.now c.args.marks.now c.args.edits.now c.args.base c.args.depth = facts _ _ _ _ _ _ _ c.requires in let Tabled : Tree Cell → Type 0 = λ k. TabledT c.args.words.now c.args.numbers.now c.args.rows.now c.args.marks.now c.args.edits.now c.args.base k in let turning : (k : Tree Cell) → Tabled k → Turn c.args.words.now c.args.numbers.now c.loop-child.rows c.loop-child.marks c.args.edits.now c.args.base c.args.frame k c.loop-child.cursor c.loop-child.child (next) = λ k h. turn _ _ _ _ _ _ _ k _ _ _ (ap (λ (n : ℕ). c.loop-child.child + n) c.word_in.ensures) (c.loop-child.invariant.4 k h) c.loop-child-test.true in let turned : Turn c.args.words.now c.args.numbers.now c.loop-child.rows c.loop-child.marks c.args.edits.now c.args.base c.args.frame c.requires.tree c.loop-child.cursor c.loop-child.child (next) = turning c.requires.tree c.requires.tabled in let f = turned in let g = given in omega arith

pub perform_final_layout_on_in_flow_children-slice_bounds-pass_aside-count : goal.perform_final_layout_on_in_flow_children-slice_bounds-pass_aside-count
perform_final_layout_on_in_flow_children-slice_bounds-pass_aside-count t c = let next : ℕ = c.loop-child.child + c.word_in.result in let given : Facts c.args.words.now c.args.numbers.now c.args.rows.now c.args.marks.now c.args.edits.now c.args.base c.args.depth = facts _ _ _ _ _ _ _ c.requires in let Tabled : Tree Cell → Type 0 = λ k. TabledT c.args.words.now c.args.numbers.now c.args.rows.now c.args.marks.now c.args.edits.now c.args.base k in let turning : (k : Tree Cell) → Tabled k → Turn c.args.words.now c.args.numbers.now c.loop-child.rows c.loop-child.marks c.args.edits.now c.args.base c.args.frame k c.loop-child.cursor c.loop-child.child (next) = λ k h. turn _ _ _ _ _ _ _ k _ _ _ (ap (λ (n : ℕ). c.loop-child.child + n) c.word_in.ensures) (c.loop-child.invariant.4 k h) c.loop-child-test.true in let turned : Turn c.args.words.now c.args.numbers.now c.loop-child.rows c.loop-child.marks c.args.edits.now c.args.base c.args.frame c.requires.tree c.loop-child.cursor c.loop-child.child (next) = turning c.requires.tree c.requires.tabled in let f = turned in let g = given in omega arith

pub perform_final_layout_on_in_flow_children-slice_bounds-pass_aside-start : goal.perform_final_layout_on_in_flow_children-slice_bounds-pass_aside-start
perform_final_layout_on_in_flow_children-slice_bounds-pass_aside-start t c = let next : ℕ = c.loop-child.child + c.word_in.result in let given : Facts c.args.words.now c.args.numbers.now c.args.rows.now c.args.marks.now c.args.edits.now c.args.base c.args.depth = facts _ _ _ _ _ _ _ c.requires in let Tabled : Tree Cell → Type 0 = λ k. TabledT c.args.words.now c.args.numbers.now c.args.rows.now c.args.marks.now c.args.edits.now c.args.base k in let turning : (k : Tree Cell) → Tabled k → Turn c.args.words.now c.args.numbers.now c.loop-child.rows c.loop-child.marks c.args.edits.now c.args.base c.args.frame k c.loop-child.cursor c.loop-child.child (next) = λ k h. turn _ _ _ _ _ _ _ k _ _ _ (ap (λ (n : ℕ). c.loop-child.child + n) c.word_in.ensures) (c.loop-child.invariant.4 k h) c.loop-child-test.true in let turned : Turn c.args.words.now c.args.numbers.now c.loop-child.rows c.loop-child.marks c.args.edits.now c.args.base c.args.frame c.requires.tree c.loop-child.cursor c.loop-child.child (next) = turning c.requires.tree c.requires.tabled in let f = turned in let g = given in omega arith

pub perform_final_layout_on_in_flow_children-slice_bounds-pass_aside-end : goal.perform_final_layout_on_in_flow_children-slice_bounds-pass_aside-end
perform_final_layout_on_in_flow_children-slice_bounds-pass_aside-end t c = let next : ℕ = c.loop-child.child + c.word_in.result in let given : Facts c.args.words.now c.args.numbers.now c.args.rows.now c.args.marks.now c.args.edits.now c.args.base c.args.depth = facts _ _ _ _ _ _ _ c.requires in let Tabled : Tree Cell → Type 0 = λ k. TabledT c.args.words.now c.args.numbers.now c.args.rows.now c.args.marks.now c.args.edits.now c.args.base k in let turning : (k : Tree Cell) → Tabled k → Turn c.args.words.now c.args.numbers.now c.loop-child.rows c.loop-child.marks c.args.edits.now c.args.base c.args.frame k c.loop-child.cursor c.loop-child.child (next) = λ k h. turn _ _ _ _ _ _ _ k _ _ _ (ap (λ (n : ℕ). c.loop-child.child + n) c.word_in.ensures) (c.loop-child.invariant.4 k h) c.loop-child-test.true in let turned : Turn c.args.words.now c.args.numbers.now c.loop-child.rows c.loop-child.marks c.args.edits.now c.args.base c.args.frame c.requires.tree c.loop-child.cursor c.loop-child.child (next) = turning c.requires.tree c.requires.tabled in let f = turned in let g = given in omega arith

pub perform_final_layout_on_in_flow_children-offset_bounds-marks-m0-in-Out : goal.perform_final_layout_on_in_flow_children-offset_bounds-marks-m0-in-Out
perform_final_layout_on_in_flow_children-offset_bounds-marks-m0-in-Out t c = let next : ℕ = c.loop-child.child + c.word_in.result in let given : Facts c.args.words.now c.args.numbers.now c.args.rows.now c.args.marks.now c.args.edits.now c.args.base c.args.depth = facts _ _ _ _ _ _ _ c.requires in let Tabled : Tree Cell → Type 0 = λ k. TabledT c.args.words.now c.args.numbers.now c.args.rows.now c.args.marks.now c.args.edits.now c.args.base k in let turning : (k : Tree Cell) → Tabled k → Turn c.args.words.now c.args.numbers.now c.loop-child.rows c.loop-child.marks c.args.edits.now c.args.base c.args.frame k c.loop-child.cursor c.loop-child.child (next) = λ k h. turn _ _ _ _ _ _ _ k _ _ _ (ap (λ (n : ℕ). c.loop-child.child + n) c.word_in.ensures) (c.loop-child.invariant.4 k h) c.loop-child-test.true in let turned : Turn c.args.words.now c.args.numbers.now c.loop-child.rows c.loop-child.marks c.args.edits.now c.args.base c.args.frame c.requires.tree c.loop-child.cursor c.loop-child.child (next) = turning c.requires.tree c.requires.tabled in let f = turned in let g = given in omega arith

pub perform_final_layout_on_in_flow_children-slice_bounds-pass_aside-count-in-Out : goal.perform_final_layout_on_in_flow_children-slice_bounds-pass_aside-count-in-Out
perform_final_layout_on_in_flow_children-slice_bounds-pass_aside-count-in-Out t c = let next : ℕ = c.loop-child.child + c.word_in.result in let given : Facts c.args.words.now c.args.numbers.now c.args.rows.now c.args.marks.now c.args.edits.now c.args.base c.args.depth = facts _ _ _ _ _ _ _ c.requires in let Tabled : Tree Cell → Type 0 = λ k. TabledT c.args.words.now c.args.numbers.now c.args.rows.now c.args.marks.now c.args.edits.now c.args.base k in let turning : (k : Tree Cell) → Tabled k → Turn c.args.words.now c.args.numbers.now c.loop-child.rows c.loop-child.marks c.args.edits.now c.args.base c.args.frame k c.loop-child.cursor c.loop-child.child (next) = λ k h. turn _ _ _ _ _ _ _ k _ _ _ (ap (λ (n : ℕ). c.loop-child.child + n) c.word_in.ensures) (c.loop-child.invariant.4 k h) c.loop-child-test.true in let turned : Turn c.args.words.now c.args.numbers.now c.loop-child.rows c.loop-child.marks c.args.edits.now c.args.base c.args.frame c.requires.tree c.loop-child.cursor c.loop-child.child (next) = turning c.requires.tree c.requires.tabled in let f = turned in let g = given in omega arith

pub perform_final_layout_on_in_flow_children-slice_bounds-pass_aside-start-in-Out : goal.perform_final_layout_on_in_flow_children-slice_bounds-pass_aside-start-in-Out
perform_final_layout_on_in_flow_children-slice_bounds-pass_aside-start-in-Out t c = let next : ℕ = c.loop-child.child + c.word_in.result in let given : Facts c.args.words.now c.args.numbers.now c.args.rows.now c.args.marks.now c.args.edits.now c.args.base c.args.depth = facts _ _ _ _ _ _ _ c.requires in let Tabled : Tree Cell → Type 0 = λ k. TabledT c.args.words.now c.args.numbers.now c.args.rows.now c.args.marks.now c.args.edits.now c.args.base k in let turning : (k : Tree Cell) → Tabled k → Turn c.args.words.now c.args.numbers.now c.loop-child.rows c.loop-child.marks c.args.edits.now c.args.base c.args.frame k c.loop-child.cursor c.loop-child.child (next) = λ k h. turn _ _ _ _ _ _ _ k _ _ _ (ap (λ (n : ℕ). c.loop-child.child + n) c.word_in.ensures) (c.loop-child.invariant.4 k h) c.loop-child-test.true in let turned : Turn c.args.words.now c.args.numbers.now c.loop-child.rows c.loop-child.marks c.args.edits.now c.args.base c.args.frame c.requires.tree c.loop-child.cursor c.loop-child.child (next) = turning c.requires.tree c.requires.tabled in let f = turned in let g = given in omega arith

pub perform_final_layout_on_in_flow_children-slice_bounds-pass_aside-end-in-Out : goal.perform_final_layout_on_in_flow_children-slice_bounds-pass_aside-end-in-Out
perform_final_layout_on_in_flow_children-slice_bounds-pass_aside-end-in-Out t c = let next : ℕ = c.loop-child.child + c.word_in.result in let given : Facts c.args.words.now c.args.numbers.now c.args.rows.now c.args.marks.now c.args.edits.now c.args.base c.args.depth = facts _ _ _ _ _ _ _ c.requires in let Tabled : Tree Cell → Type 0 = λ k. TabledT c.args.words.now c.args.numbers.now c.args.rows.now c.args.marks.now c.args.edits.now c.args.base k in let turning : (k : Tree Cell) → Tabled k → Turn c.args.words.now c.args.numbers.now c.loop-child.rows c.loop-child.marks c.args.edits.now c.args.base c.args.frame k c.loop-child.cursor c.loop-child.child (next) = λ k h. turn _ _ _ _ _ _ _ k _ _ _ (ap (λ (n : ℕ). c.loop-child.child + n) c.word_in.ensures) (c.loop-child.invariant.4 k h) c.loop-child-test.true in let turned : Turn c.args.words.now c.args.numbers.now c.loop-child.rows c.loop-child.marks c.args.edits.now c.args.base c.args.frame c.requires.tree c.loop-child.cursor c.loop-child.child (next) = turning c.requires.tree c.requires.tabled in let f = turned in let g = given in omega arith

pub perform_final_layout_on_in_flow_children-pass_aside-cursor-requires : goal.perform_final_layout_on_in_flow_children-pass_aside-cursor-requires
perform_final_layout_on_in_flow_children-pass_aside-cursor-requires t c = let next : ℕ = c.loop-child.child + c.word_in.result in let given : Facts c.args.words.now c.args.numbers.now c.args.rows.now c.args.marks.now c.args.edits.now c.args.base c.args.depth = facts _ _ _ _ _ _ _ c.requires in let Tabled : Tree Cell → Type 0 = λ k. TabledT c.args.words.now c.args.numbers.now c.args.rows.now c.args.marks.now c.args.edits.now c.args.base k in let turning : (k : Tree Cell) → Tabled k → Turn c.args.words.now c.args.numbers.now c.loop-child.rows c.loop-child.marks c.args.edits.now c.args.base c.args.frame k c.loop-child.cursor c.loop-child.child (next) = λ k h. turn _ _ _ _ _ _ _ k _ _ _ (ap (λ (n : ℕ). c.loop-child.child + n) c.word_in.ensures) (c.loop-child.invariant.4 k h) c.loop-child-test.true in let turned : Turn c.args.words.now c.args.numbers.now c.loop-child.rows c.loop-child.marks c.args.edits.now c.args.base c.args.frame c.requires.tree c.loop-child.cursor c.loop-child.child (next) = turning c.requires.tree c.requires.tabled in let its-words : List ℕ = take (4 * next - 4 * c.loop-child.child) (drop (4 * c.loop-child.child) c.args.words.now) in let its-rows : List Float = take (16 * next - 16 * c.loop-child.child) (drop (16 * c.loop-child.child) c.loop-child.rows) in let its-marks : List ℕ = take (2 * next - 2 * c.loop-child.child) (drop (2 * c.loop-child.child) c.loop-child.marks) in let child : IsTree (its-words) c.args.numbers.now (its-rows) (its-marks) c.args.edits.now (c.args.base + c.loop-child.child) (c.args.depth - 1) = let f = turned in let w = c.requires.fit in let u = c.requires.reach in let v = c.requires.tabled.words_long in record { tree = f.tree; tabled = f.tabled; deep = f.shallow c.args.depth c.requires.deep; fit = omega arith; reach = omega arith } in let counts : Counts c.loop-child.cursor = let f = turned in let g = given in let i = c.loop-child.invariant in record { shown = omega (arith, i.3.1); count = omega (arith, i.3.0) } in record { room = (facts _ _ _ _ _ _ _ (child)).room; counts = counts }

pub perform_final_layout_on_in_flow_children-offset_bounds-words-w0-in-In : goal.perform_final_layout_on_in_flow_children-offset_bounds-words-w0-in-In
perform_final_layout_on_in_flow_children-offset_bounds-words-w0-in-In t c = let next : ℕ = c.loop-child.child + c.word_in.result in let given : Facts c.args.words.now c.args.numbers.now c.args.rows.now c.args.marks.now c.args.edits.now c.args.base c.args.depth = facts _ _ _ _ _ _ _ c.requires in let Tabled : Tree Cell → Type 0 = λ k. TabledT c.args.words.now c.args.numbers.now c.args.rows.now c.args.marks.now c.args.edits.now c.args.base k in let turning : (k : Tree Cell) → Tabled k → Turn c.args.words.now c.args.numbers.now c.loop-child.rows c.loop-child.marks c.args.edits.now c.args.base c.args.frame k c.loop-child.cursor c.loop-child.child (next) = λ k h. turn _ _ _ _ _ _ _ k _ _ _ (ap (λ (n : ℕ). c.loop-child.child + n) c.word_in.ensures) (c.loop-child.invariant.4 k h) c.loop-child-test.true in let turned : Turn c.args.words.now c.args.numbers.now c.loop-child.rows c.loop-child.marks c.args.edits.now c.args.base c.args.frame c.requires.tree c.loop-child.cursor c.loop-child.child (next) = turning c.requires.tree c.requires.tabled in let f = turned in let g = given in omega arith

pub perform_final_layout_on_in_flow_children-slice_bounds-plan_at-count : goal.perform_final_layout_on_in_flow_children-slice_bounds-plan_at-count
perform_final_layout_on_in_flow_children-slice_bounds-plan_at-count t c = let next : ℕ = c.loop-child.child + c.word_in.result in let given : Facts c.args.words.now c.args.numbers.now c.args.rows.now c.args.marks.now c.args.edits.now c.args.base c.args.depth = facts _ _ _ _ _ _ _ c.requires in let Tabled : Tree Cell → Type 0 = λ k. TabledT c.args.words.now c.args.numbers.now c.args.rows.now c.args.marks.now c.args.edits.now c.args.base k in let turning : (k : Tree Cell) → Tabled k → Turn c.args.words.now c.args.numbers.now c.loop-child.rows c.loop-child.marks c.args.edits.now c.args.base c.args.frame k c.loop-child.cursor c.loop-child.child (next) = λ k h. turn _ _ _ _ _ _ _ k _ _ _ (ap (λ (n : ℕ). c.loop-child.child + n) c.word_in.ensures) (c.loop-child.invariant.4 k h) c.loop-child-test.true in let turned : Turn c.args.words.now c.args.numbers.now c.loop-child.rows c.loop-child.marks c.args.edits.now c.args.base c.args.frame c.requires.tree c.loop-child.cursor c.loop-child.child (next) = turning c.requires.tree c.requires.tabled in let f = turned in let g = given in omega arith

pub perform_final_layout_on_in_flow_children-slice_bounds-plan_at-start : goal.perform_final_layout_on_in_flow_children-slice_bounds-plan_at-start
perform_final_layout_on_in_flow_children-slice_bounds-plan_at-start t c = let next : ℕ = c.loop-child.child + c.word_in.result in let given : Facts c.args.words.now c.args.numbers.now c.args.rows.now c.args.marks.now c.args.edits.now c.args.base c.args.depth = facts _ _ _ _ _ _ _ c.requires in let Tabled : Tree Cell → Type 0 = λ k. TabledT c.args.words.now c.args.numbers.now c.args.rows.now c.args.marks.now c.args.edits.now c.args.base k in let turning : (k : Tree Cell) → Tabled k → Turn c.args.words.now c.args.numbers.now c.loop-child.rows c.loop-child.marks c.args.edits.now c.args.base c.args.frame k c.loop-child.cursor c.loop-child.child (next) = λ k h. turn _ _ _ _ _ _ _ k _ _ _ (ap (λ (n : ℕ). c.loop-child.child + n) c.word_in.ensures) (c.loop-child.invariant.4 k h) c.loop-child-test.true in let turned : Turn c.args.words.now c.args.numbers.now c.loop-child.rows c.loop-child.marks c.args.edits.now c.args.base c.args.frame c.requires.tree c.loop-child.cursor c.loop-child.child (next) = turning c.requires.tree c.requires.tabled in let f = turned in let g = given in omega arith

pub perform_final_layout_on_in_flow_children-slice_bounds-plan_at-end : goal.perform_final_layout_on_in_flow_children-slice_bounds-plan_at-end
perform_final_layout_on_in_flow_children-slice_bounds-plan_at-end t c = let next : ℕ = c.loop-child.child + c.word_in.result in let given : Facts c.args.words.now c.args.numbers.now c.args.rows.now c.args.marks.now c.args.edits.now c.args.base c.args.depth = facts _ _ _ _ _ _ _ c.requires in let Tabled : Tree Cell → Type 0 = λ k. TabledT c.args.words.now c.args.numbers.now c.args.rows.now c.args.marks.now c.args.edits.now c.args.base k in let turning : (k : Tree Cell) → Tabled k → Turn c.args.words.now c.args.numbers.now c.loop-child.rows c.loop-child.marks c.args.edits.now c.args.base c.args.frame k c.loop-child.cursor c.loop-child.child (next) = λ k h. turn _ _ _ _ _ _ _ k _ _ _ (ap (λ (n : ℕ). c.loop-child.child + n) c.word_in.ensures) (c.loop-child.invariant.4 k h) c.loop-child-test.true in let turned : Turn c.args.words.now c.args.numbers.now c.loop-child.rows c.loop-child.marks c.args.edits.now c.args.base c.args.frame c.requires.tree c.loop-child.cursor c.loop-child.child (next) = turning c.requires.tree c.requires.tabled in let f = turned in let g = given in omega arith

pub perform_final_layout_on_in_flow_children-overflow_add-base : goal.perform_final_layout_on_in_flow_children-overflow_add-base
perform_final_layout_on_in_flow_children-overflow_add-base t c = let next : ℕ = c.loop-child.child + c.word_in.result in let given : Facts c.args.words.now c.args.numbers.now c.args.rows.now c.args.marks.now c.args.edits.now c.args.base c.args.depth = facts _ _ _ _ _ _ _ c.requires in let Tabled : Tree Cell → Type 0 = λ k. TabledT c.args.words.now c.args.numbers.now c.args.rows.now c.args.marks.now c.args.edits.now c.args.base k in let turning : (k : Tree Cell) → Tabled k → Turn c.args.words.now c.args.numbers.now c.loop-child.rows c.loop-child.marks c.args.edits.now c.args.base c.args.frame k c.loop-child.cursor c.loop-child.child (next) = λ k h. turn _ _ _ _ _ _ _ k _ _ _ (ap (λ (n : ℕ). c.loop-child.child + n) c.word_in.ensures) (c.loop-child.invariant.4 k h) c.loop-child-test.true in let turned : Turn c.args.words.now c.args.numbers.now c.loop-child.rows c.loop-child.marks c.args.edits.now c.args.base c.args.frame c.requires.tree c.loop-child.cursor c.loop-child.child (next) = turning c.requires.tree c.requires.tabled in let f = turned in let g = given in omega arith

pub perform_final_layout_on_in_flow_children-plan_at-plan-requires : goal.perform_final_layout_on_in_flow_children-plan_at-plan-requires
perform_final_layout_on_in_flow_children-plan_at-plan-requires t c = let next : ℕ = c.loop-child.child + c.word_in.result in let Tabled : Tree Cell → Type 0 = λ k. TabledT c.args.words.now c.args.numbers.now c.args.rows.now c.args.marks.now c.args.edits.now c.args.base k in let turning : (k : Tree Cell) → Tabled k → Turn c.args.words.now c.args.numbers.now c.loop-child.rows c.loop-child.marks c.args.edits.now c.args.base c.args.frame k c.loop-child.cursor c.loop-child.child (next) = λ k h. turn _ _ _ _ _ _ _ k _ _ _ (ap (λ (n : ℕ). c.loop-child.child + n) c.word_in.ensures) (c.loop-child.invariant.4 k h) c.loop-child-test.true in let turned : Turn c.args.words.now c.args.numbers.now c.loop-child.rows c.loop-child.marks c.args.edits.now c.args.base c.args.frame c.requires.tree c.loop-child.cursor c.loop-child.child (next) = turning c.requires.tree c.requires.tabled in let its-words : List ℕ = take (4 * next - 4 * c.loop-child.child) (drop (4 * c.loop-child.child) c.args.words.now) in let its-rows : List Float = take (16 * next - 16 * c.loop-child.child) (drop (16 * c.loop-child.child) c.loop-child.rows) in let its-marks : List ℕ = take (2 * next - 2 * c.loop-child.child) (drop (2 * c.loop-child.child) c.loop-child.marks) in let child : IsTree (its-words) c.args.numbers.now (its-rows) (its-marks) c.args.edits.now (c.args.base + c.loop-child.child) (c.args.depth - 1) = let f = turned in let w = c.requires.fit in let u = c.requires.reach in let v = c.requires.tabled.words_long in record { tree = f.tree; tabled = f.tabled; deep = f.shallow c.args.depth c.requires.deep; fit = omega arith; reach = omega arith } in let k = facts _ _ _ _ _ _ _ (child) in (k.words_some, k.reach)

pub perform_final_layout_on_in_flow_children-offset_bounds-words-w0-in-In-2 : goal.perform_final_layout_on_in_flow_children-offset_bounds-words-w0-in-In-2
perform_final_layout_on_in_flow_children-offset_bounds-words-w0-in-In-2 t c = let next : ℕ = c.loop-child.child + c.word_in.result in let given : Facts c.args.words.now c.args.numbers.now c.args.rows.now c.args.marks.now c.args.edits.now c.args.base c.args.depth = facts _ _ _ _ _ _ _ c.requires in let Tabled : Tree Cell → Type 0 = λ k. TabledT c.args.words.now c.args.numbers.now c.args.rows.now c.args.marks.now c.args.edits.now c.args.base k in let turning : (k : Tree Cell) → Tabled k → Turn c.args.words.now c.args.numbers.now c.loop-child.rows c.loop-child.marks c.args.edits.now c.args.base c.args.frame k c.loop-child.cursor c.loop-child.child (next) = λ k h. turn _ _ _ _ _ _ _ k _ _ _ (ap (λ (n : ℕ). c.loop-child.child + n) c.word_in.ensures) (c.loop-child.invariant.4 k h) c.loop-child-test.true in let turned : Turn c.args.words.now c.args.numbers.now c.loop-child.rows c.loop-child.marks c.args.edits.now c.args.base c.args.frame c.requires.tree c.loop-child.cursor c.loop-child.child (next) = turning c.requires.tree c.requires.tabled in let f = turned in let g = given in omega arith

pub perform_final_layout_on_in_flow_children-slice_bounds-compute_child_layout-count : goal.perform_final_layout_on_in_flow_children-slice_bounds-compute_child_layout-count
perform_final_layout_on_in_flow_children-slice_bounds-compute_child_layout-count t c = let next : ℕ = c.loop-child.child + c.word_in.result in let given : Facts c.args.words.now c.args.numbers.now c.args.rows.now c.args.marks.now c.args.edits.now c.args.base c.args.depth = facts _ _ _ _ _ _ _ c.requires in let Tabled : Tree Cell → Type 0 = λ k. TabledT c.args.words.now c.args.numbers.now c.args.rows.now c.args.marks.now c.args.edits.now c.args.base k in let turning : (k : Tree Cell) → Tabled k → Turn c.args.words.now c.args.numbers.now c.loop-child.rows c.loop-child.marks c.args.edits.now c.args.base c.args.frame k c.loop-child.cursor c.loop-child.child (next) = λ k h. turn _ _ _ _ _ _ _ k _ _ _ (ap (λ (n : ℕ). c.loop-child.child + n) c.word_in.ensures) (c.loop-child.invariant.4 k h) c.loop-child-test.true in let turned : Turn c.args.words.now c.args.numbers.now c.loop-child.rows c.loop-child.marks c.args.edits.now c.args.base c.args.frame c.requires.tree c.loop-child.cursor c.loop-child.child (next) = turning c.requires.tree c.requires.tabled in let f = turned in let g = given in omega arith

pub perform_final_layout_on_in_flow_children-slice_bounds-compute_child_layout-start : goal.perform_final_layout_on_in_flow_children-slice_bounds-compute_child_layout-start
perform_final_layout_on_in_flow_children-slice_bounds-compute_child_layout-start t c = let next : ℕ = c.loop-child.child + c.word_in.result in let given : Facts c.args.words.now c.args.numbers.now c.args.rows.now c.args.marks.now c.args.edits.now c.args.base c.args.depth = facts _ _ _ _ _ _ _ c.requires in let Tabled : Tree Cell → Type 0 = λ k. TabledT c.args.words.now c.args.numbers.now c.args.rows.now c.args.marks.now c.args.edits.now c.args.base k in let turning : (k : Tree Cell) → Tabled k → Turn c.args.words.now c.args.numbers.now c.loop-child.rows c.loop-child.marks c.args.edits.now c.args.base c.args.frame k c.loop-child.cursor c.loop-child.child (next) = λ k h. turn _ _ _ _ _ _ _ k _ _ _ (ap (λ (n : ℕ). c.loop-child.child + n) c.word_in.ensures) (c.loop-child.invariant.4 k h) c.loop-child-test.true in let turned : Turn c.args.words.now c.args.numbers.now c.loop-child.rows c.loop-child.marks c.args.edits.now c.args.base c.args.frame c.requires.tree c.loop-child.cursor c.loop-child.child (next) = turning c.requires.tree c.requires.tabled in let f = turned in let g = given in omega arith

pub perform_final_layout_on_in_flow_children-slice_bounds-compute_child_layout-end : goal.perform_final_layout_on_in_flow_children-slice_bounds-compute_child_layout-end
perform_final_layout_on_in_flow_children-slice_bounds-compute_child_layout-end t c = let next : ℕ = c.loop-child.child + c.word_in.result in let given : Facts c.args.words.now c.args.numbers.now c.args.rows.now c.args.marks.now c.args.edits.now c.args.base c.args.depth = facts _ _ _ _ _ _ _ c.requires in let Tabled : Tree Cell → Type 0 = λ k. TabledT c.args.words.now c.args.numbers.now c.args.rows.now c.args.marks.now c.args.edits.now c.args.base k in let turning : (k : Tree Cell) → Tabled k → Turn c.args.words.now c.args.numbers.now c.loop-child.rows c.loop-child.marks c.args.edits.now c.args.base c.args.frame k c.loop-child.cursor c.loop-child.child (next) = λ k h. turn _ _ _ _ _ _ _ k _ _ _ (ap (λ (n : ℕ). c.loop-child.child + n) c.word_in.ensures) (c.loop-child.invariant.4 k h) c.loop-child-test.true in let turned : Turn c.args.words.now c.args.numbers.now c.loop-child.rows c.loop-child.marks c.args.edits.now c.args.base c.args.frame c.requires.tree c.loop-child.cursor c.loop-child.child (next) = turning c.requires.tree c.requires.tabled in let f = turned in let g = given in omega arith

pub perform_final_layout_on_in_flow_children-offset_bounds-rows-r0-in-In : goal.perform_final_layout_on_in_flow_children-offset_bounds-rows-r0-in-In
perform_final_layout_on_in_flow_children-offset_bounds-rows-r0-in-In t c = let next : ℕ = c.loop-child.child + c.word_in.result in let given : Facts c.args.words.now c.args.numbers.now c.args.rows.now c.args.marks.now c.args.edits.now c.args.base c.args.depth = facts _ _ _ _ _ _ _ c.requires in let Tabled : Tree Cell → Type 0 = λ k. TabledT c.args.words.now c.args.numbers.now c.args.rows.now c.args.marks.now c.args.edits.now c.args.base k in let turning : (k : Tree Cell) → Tabled k → Turn c.args.words.now c.args.numbers.now c.loop-child.rows c.loop-child.marks c.args.edits.now c.args.base c.args.frame k c.loop-child.cursor c.loop-child.child (next) = λ k h. turn _ _ _ _ _ _ _ k _ _ _ (ap (λ (n : ℕ). c.loop-child.child + n) c.word_in.ensures) (c.loop-child.invariant.4 k h) c.loop-child-test.true in let turned : Turn c.args.words.now c.args.numbers.now c.loop-child.rows c.loop-child.marks c.args.edits.now c.args.base c.args.frame c.requires.tree c.loop-child.cursor c.loop-child.child (next) = turning c.requires.tree c.requires.tabled in let f = turned in let g = given in omega arith

pub perform_final_layout_on_in_flow_children-slice_bounds-compute_child_layout-count-in-In : goal.perform_final_layout_on_in_flow_children-slice_bounds-compute_child_layout-count-in-In
perform_final_layout_on_in_flow_children-slice_bounds-compute_child_layout-count-in-In t c = let next : ℕ = c.loop-child.child + c.word_in.result in let given : Facts c.args.words.now c.args.numbers.now c.args.rows.now c.args.marks.now c.args.edits.now c.args.base c.args.depth = facts _ _ _ _ _ _ _ c.requires in let Tabled : Tree Cell → Type 0 = λ k. TabledT c.args.words.now c.args.numbers.now c.args.rows.now c.args.marks.now c.args.edits.now c.args.base k in let turning : (k : Tree Cell) → Tabled k → Turn c.args.words.now c.args.numbers.now c.loop-child.rows c.loop-child.marks c.args.edits.now c.args.base c.args.frame k c.loop-child.cursor c.loop-child.child (next) = λ k h. turn _ _ _ _ _ _ _ k _ _ _ (ap (λ (n : ℕ). c.loop-child.child + n) c.word_in.ensures) (c.loop-child.invariant.4 k h) c.loop-child-test.true in let turned : Turn c.args.words.now c.args.numbers.now c.loop-child.rows c.loop-child.marks c.args.edits.now c.args.base c.args.frame c.requires.tree c.loop-child.cursor c.loop-child.child (next) = turning c.requires.tree c.requires.tabled in let f = turned in let g = given in omega arith

pub perform_final_layout_on_in_flow_children-slice_bounds-compute_child_layout-start-in-In : goal.perform_final_layout_on_in_flow_children-slice_bounds-compute_child_layout-start-in-In
perform_final_layout_on_in_flow_children-slice_bounds-compute_child_layout-start-in-In t c = let next : ℕ = c.loop-child.child + c.word_in.result in let given : Facts c.args.words.now c.args.numbers.now c.args.rows.now c.args.marks.now c.args.edits.now c.args.base c.args.depth = facts _ _ _ _ _ _ _ c.requires in let Tabled : Tree Cell → Type 0 = λ k. TabledT c.args.words.now c.args.numbers.now c.args.rows.now c.args.marks.now c.args.edits.now c.args.base k in let turning : (k : Tree Cell) → Tabled k → Turn c.args.words.now c.args.numbers.now c.loop-child.rows c.loop-child.marks c.args.edits.now c.args.base c.args.frame k c.loop-child.cursor c.loop-child.child (next) = λ k h. turn _ _ _ _ _ _ _ k _ _ _ (ap (λ (n : ℕ). c.loop-child.child + n) c.word_in.ensures) (c.loop-child.invariant.4 k h) c.loop-child-test.true in let turned : Turn c.args.words.now c.args.numbers.now c.loop-child.rows c.loop-child.marks c.args.edits.now c.args.base c.args.frame c.requires.tree c.loop-child.cursor c.loop-child.child (next) = turning c.requires.tree c.requires.tabled in let f = turned in let g = given in omega arith

pub perform_final_layout_on_in_flow_children-slice_bounds-compute_child_layout-end-in-In : goal.perform_final_layout_on_in_flow_children-slice_bounds-compute_child_layout-end-in-In
perform_final_layout_on_in_flow_children-slice_bounds-compute_child_layout-end-in-In t c = let next : ℕ = c.loop-child.child + c.word_in.result in let given : Facts c.args.words.now c.args.numbers.now c.args.rows.now c.args.marks.now c.args.edits.now c.args.base c.args.depth = facts _ _ _ _ _ _ _ c.requires in let Tabled : Tree Cell → Type 0 = λ k. TabledT c.args.words.now c.args.numbers.now c.args.rows.now c.args.marks.now c.args.edits.now c.args.base k in let turning : (k : Tree Cell) → Tabled k → Turn c.args.words.now c.args.numbers.now c.loop-child.rows c.loop-child.marks c.args.edits.now c.args.base c.args.frame k c.loop-child.cursor c.loop-child.child (next) = λ k h. turn _ _ _ _ _ _ _ k _ _ _ (ap (λ (n : ℕ). c.loop-child.child + n) c.word_in.ensures) (c.loop-child.invariant.4 k h) c.loop-child-test.true in let turned : Turn c.args.words.now c.args.numbers.now c.loop-child.rows c.loop-child.marks c.args.edits.now c.args.base c.args.frame c.requires.tree c.loop-child.cursor c.loop-child.child (next) = turning c.requires.tree c.requires.tabled in let f = turned in let g = given in omega arith

pub perform_final_layout_on_in_flow_children-offset_bounds-marks-m0-in-In : goal.perform_final_layout_on_in_flow_children-offset_bounds-marks-m0-in-In
perform_final_layout_on_in_flow_children-offset_bounds-marks-m0-in-In t c = let next : ℕ = c.loop-child.child + c.word_in.result in let given : Facts c.args.words.now c.args.numbers.now c.args.rows.now c.args.marks.now c.args.edits.now c.args.base c.args.depth = facts _ _ _ _ _ _ _ c.requires in let Tabled : Tree Cell → Type 0 = λ k. TabledT c.args.words.now c.args.numbers.now c.args.rows.now c.args.marks.now c.args.edits.now c.args.base k in let turning : (k : Tree Cell) → Tabled k → Turn c.args.words.now c.args.numbers.now c.loop-child.rows c.loop-child.marks c.args.edits.now c.args.base c.args.frame k c.loop-child.cursor c.loop-child.child (next) = λ k h. turn _ _ _ _ _ _ _ k _ _ _ (ap (λ (n : ℕ). c.loop-child.child + n) c.word_in.ensures) (c.loop-child.invariant.4 k h) c.loop-child-test.true in let turned : Turn c.args.words.now c.args.numbers.now c.loop-child.rows c.loop-child.marks c.args.edits.now c.args.base c.args.frame c.requires.tree c.loop-child.cursor c.loop-child.child (next) = turning c.requires.tree c.requires.tabled in let f = turned in let g = given in omega arith

pub perform_final_layout_on_in_flow_children-slice_bounds-compute_child_layout-count-in-In-2 : goal.perform_final_layout_on_in_flow_children-slice_bounds-compute_child_layout-count-in-In-2
perform_final_layout_on_in_flow_children-slice_bounds-compute_child_layout-count-in-In-2 t c = let next : ℕ = c.loop-child.child + c.word_in.result in let given : Facts c.args.words.now c.args.numbers.now c.args.rows.now c.args.marks.now c.args.edits.now c.args.base c.args.depth = facts _ _ _ _ _ _ _ c.requires in let Tabled : Tree Cell → Type 0 = λ k. TabledT c.args.words.now c.args.numbers.now c.args.rows.now c.args.marks.now c.args.edits.now c.args.base k in let turning : (k : Tree Cell) → Tabled k → Turn c.args.words.now c.args.numbers.now c.loop-child.rows c.loop-child.marks c.args.edits.now c.args.base c.args.frame k c.loop-child.cursor c.loop-child.child (next) = λ k h. turn _ _ _ _ _ _ _ k _ _ _ (ap (λ (n : ℕ). c.loop-child.child + n) c.word_in.ensures) (c.loop-child.invariant.4 k h) c.loop-child-test.true in let turned : Turn c.args.words.now c.args.numbers.now c.loop-child.rows c.loop-child.marks c.args.edits.now c.args.base c.args.frame c.requires.tree c.loop-child.cursor c.loop-child.child (next) = turning c.requires.tree c.requires.tabled in let f = turned in let g = given in omega arith

pub perform_final_layout_on_in_flow_children-slice_bounds-compute_child_layout-start-in-In-2 : goal.perform_final_layout_on_in_flow_children-slice_bounds-compute_child_layout-start-in-In-2
perform_final_layout_on_in_flow_children-slice_bounds-compute_child_layout-start-in-In-2 t c = let next : ℕ = c.loop-child.child + c.word_in.result in let given : Facts c.args.words.now c.args.numbers.now c.args.rows.now c.args.marks.now c.args.edits.now c.args.base c.args.depth = facts _ _ _ _ _ _ _ c.requires in let Tabled : Tree Cell → Type 0 = λ k. TabledT c.args.words.now c.args.numbers.now c.args.rows.now c.args.marks.now c.args.edits.now c.args.base k in let turning : (k : Tree Cell) → Tabled k → Turn c.args.words.now c.args.numbers.now c.loop-child.rows c.loop-child.marks c.args.edits.now c.args.base c.args.frame k c.loop-child.cursor c.loop-child.child (next) = λ k h. turn _ _ _ _ _ _ _ k _ _ _ (ap (λ (n : ℕ). c.loop-child.child + n) c.word_in.ensures) (c.loop-child.invariant.4 k h) c.loop-child-test.true in let turned : Turn c.args.words.now c.args.numbers.now c.loop-child.rows c.loop-child.marks c.args.edits.now c.args.base c.args.frame c.requires.tree c.loop-child.cursor c.loop-child.child (next) = turning c.requires.tree c.requires.tabled in let f = turned in let g = given in omega arith

pub perform_final_layout_on_in_flow_children-slice_bounds-compute_child_layout-end-in-In-2 : goal.perform_final_layout_on_in_flow_children-slice_bounds-compute_child_layout-end-in-In-2
perform_final_layout_on_in_flow_children-slice_bounds-compute_child_layout-end-in-In-2 t c = let next : ℕ = c.loop-child.child + c.word_in.result in let given : Facts c.args.words.now c.args.numbers.now c.args.rows.now c.args.marks.now c.args.edits.now c.args.base c.args.depth = facts _ _ _ _ _ _ _ c.requires in let Tabled : Tree Cell → Type 0 = λ k. TabledT c.args.words.now c.args.numbers.now c.args.rows.now c.args.marks.now c.args.edits.now c.args.base k in let turning : (k : Tree Cell) → Tabled k → Turn c.args.words.now c.args.numbers.now c.loop-child.rows c.loop-child.marks c.args.edits.now c.args.base c.args.frame k c.loop-child.cursor c.loop-child.child (next) = λ k h. turn _ _ _ _ _ _ _ k _ _ _ (ap (λ (n : ℕ). c.loop-child.child + n) c.word_in.ensures) (c.loop-child.invariant.4 k h) c.loop-child-test.true in let turned : Turn c.args.words.now c.args.numbers.now c.loop-child.rows c.loop-child.marks c.args.edits.now c.args.base c.args.frame c.requires.tree c.loop-child.cursor c.loop-child.child (next) = turning c.requires.tree c.requires.tabled in let f = turned in let g = given in omega arith

pub perform_final_layout_on_in_flow_children-overflow_add-base-in-In : goal.perform_final_layout_on_in_flow_children-overflow_add-base-in-In
perform_final_layout_on_in_flow_children-overflow_add-base-in-In t c = let next : ℕ = c.loop-child.child + c.word_in.result in let given : Facts c.args.words.now c.args.numbers.now c.args.rows.now c.args.marks.now c.args.edits.now c.args.base c.args.depth = facts _ _ _ _ _ _ _ c.requires in let Tabled : Tree Cell → Type 0 = λ k. TabledT c.args.words.now c.args.numbers.now c.args.rows.now c.args.marks.now c.args.edits.now c.args.base k in let turning : (k : Tree Cell) → Tabled k → Turn c.args.words.now c.args.numbers.now c.loop-child.rows c.loop-child.marks c.args.edits.now c.args.base c.args.frame k c.loop-child.cursor c.loop-child.child (next) = λ k h. turn _ _ _ _ _ _ _ k _ _ _ (ap (λ (n : ℕ). c.loop-child.child + n) c.word_in.ensures) (c.loop-child.invariant.4 k h) c.loop-child-test.true in let turned : Turn c.args.words.now c.args.numbers.now c.loop-child.rows c.loop-child.marks c.args.edits.now c.args.base c.args.frame c.requires.tree c.loop-child.cursor c.loop-child.child (next) = turning c.requires.tree c.requires.tabled in let f = turned in let g = given in omega arith

pub perform_final_layout_on_in_flow_children-overflow_sub-depth : goal.perform_final_layout_on_in_flow_children-overflow_sub-depth
perform_final_layout_on_in_flow_children-overflow_sub-depth t c = let next : ℕ = c.loop-child.child + c.word_in.result in let given : Facts c.args.words.now c.args.numbers.now c.args.rows.now c.args.marks.now c.args.edits.now c.args.base c.args.depth = facts _ _ _ _ _ _ _ c.requires in let Tabled : Tree Cell → Type 0 = λ k. TabledT c.args.words.now c.args.numbers.now c.args.rows.now c.args.marks.now c.args.edits.now c.args.base k in let turning : (k : Tree Cell) → Tabled k → Turn c.args.words.now c.args.numbers.now c.loop-child.rows c.loop-child.marks c.args.edits.now c.args.base c.args.frame k c.loop-child.cursor c.loop-child.child (next) = λ k h. turn _ _ _ _ _ _ _ k _ _ _ (ap (λ (n : ℕ). c.loop-child.child + n) c.word_in.ensures) (c.loop-child.invariant.4 k h) c.loop-child-test.true in let turned : Turn c.args.words.now c.args.numbers.now c.loop-child.rows c.loop-child.marks c.args.edits.now c.args.base c.args.frame c.requires.tree c.loop-child.cursor c.loop-child.child (next) = turning c.requires.tree c.requires.tabled in let f = turned in let g = given in omega arith

pub perform_final_layout_on_in_flow_children-compute_child_layout-answer-requires : goal.perform_final_layout_on_in_flow_children-compute_child_layout-answer-requires
perform_final_layout_on_in_flow_children-compute_child_layout-answer-requires t c = let next : ℕ = c.loop-child.child + c.word_in.result in let given : Facts c.args.words.now c.args.numbers.now c.args.rows.now c.args.marks.now c.args.edits.now c.args.base c.args.depth = facts _ _ _ _ _ _ _ c.requires in let Tabled : Tree Cell → Type 0 = λ k. TabledT c.args.words.now c.args.numbers.now c.args.rows.now c.args.marks.now c.args.edits.now c.args.base k in let turning : (k : Tree Cell) → Tabled k → Turn c.args.words.now c.args.numbers.now c.loop-child.rows c.loop-child.marks c.args.edits.now c.args.base c.args.frame k c.loop-child.cursor c.loop-child.child (next) = λ k h. turn _ _ _ _ _ _ _ k _ _ _ (ap (λ (n : ℕ). c.loop-child.child + n) c.word_in.ensures) (c.loop-child.invariant.4 k h) c.loop-child-test.true in let turned : Turn c.args.words.now c.args.numbers.now c.loop-child.rows c.loop-child.marks c.args.edits.now c.args.base c.args.frame c.requires.tree c.loop-child.cursor c.loop-child.child (next) = turning c.requires.tree c.requires.tabled in let its-words : List ℕ = take (4 * next - 4 * c.loop-child.child) (drop (4 * c.loop-child.child) c.args.words.now) in let its-rows : List Float = take (16 * next - 16 * c.loop-child.child) (drop (16 * c.loop-child.child) c.loop-child.rows) in let its-marks : List ℕ = take (2 * next - 2 * c.loop-child.child) (drop (2 * c.loop-child.child) c.loop-child.marks) in let child : IsTree (its-words) c.args.numbers.now (its-rows) (its-marks) c.args.edits.now (c.args.base + c.loop-child.child) (c.args.depth - 1) = let f = turned in let w = c.requires.fit in let u = c.requires.reach in let v = c.requires.tabled.words_long in record { tree = f.tree; tabled = f.tabled; deep = f.shallow c.args.depth c.requires.deep; fit = omega arith; reach = omega arith } in let g = given in (omega (arith, c.decreases, g.deep), child)

pub perform_final_layout_on_in_flow_children-offset_bounds-rows-r0-in-In-2 : goal.perform_final_layout_on_in_flow_children-offset_bounds-rows-r0-in-In-2
perform_final_layout_on_in_flow_children-offset_bounds-rows-r0-in-In-2 t c = let next : ℕ = c.loop-child.child + c.word_in.result in let given : Facts c.args.words.now c.args.numbers.now c.args.rows.now c.args.marks.now c.args.edits.now c.args.base c.args.depth = facts _ _ _ _ _ _ _ c.requires in let Tabled : Tree Cell → Type 0 = λ k. TabledT c.args.words.now c.args.numbers.now c.args.rows.now c.args.marks.now c.args.edits.now c.args.base k in let turning : (k : Tree Cell) → Tabled k → Turn c.args.words.now c.args.numbers.now c.loop-child.rows c.loop-child.marks c.args.edits.now c.args.base c.args.frame k c.loop-child.cursor c.loop-child.child (next) = λ k h. turn _ _ _ _ _ _ _ k _ _ _ (ap (λ (n : ℕ). c.loop-child.child + n) c.word_in.ensures) (c.loop-child.invariant.4 k h) c.loop-child-test.true in let turned : Turn c.args.words.now c.args.numbers.now c.loop-child.rows c.loop-child.marks c.args.edits.now c.args.base c.args.frame c.requires.tree c.loop-child.cursor c.loop-child.child (next) = turning c.requires.tree c.requires.tabled in let f = turned in let g = given in omega arith

pub perform_final_layout_on_in_flow_children-slice_bounds-settle-count : goal.perform_final_layout_on_in_flow_children-slice_bounds-settle-count
perform_final_layout_on_in_flow_children-slice_bounds-settle-count t c = let next : ℕ = c.loop-child.child + c.word_in.result in let given : Facts c.args.words.now c.args.numbers.now c.args.rows.now c.args.marks.now c.args.edits.now c.args.base c.args.depth = facts _ _ _ _ _ _ _ c.requires in let Tabled : Tree Cell → Type 0 = λ k. TabledT c.args.words.now c.args.numbers.now c.args.rows.now c.args.marks.now c.args.edits.now c.args.base k in let turning : (k : Tree Cell) → Tabled k → Turn c.args.words.now c.args.numbers.now c.loop-child.rows c.loop-child.marks c.args.edits.now c.args.base c.args.frame k c.loop-child.cursor c.loop-child.child (next) = λ k h. turn _ _ _ _ _ _ _ k _ _ _ (ap (λ (n : ℕ). c.loop-child.child + n) c.word_in.ensures) (c.loop-child.invariant.4 k h) c.loop-child-test.true in let turned : Turn c.args.words.now c.args.numbers.now c.loop-child.rows c.loop-child.marks c.args.edits.now c.args.base c.args.frame c.requires.tree c.loop-child.cursor c.loop-child.child (next) = turning c.requires.tree c.requires.tabled in let f = turned in let g = given in omega arith

pub perform_final_layout_on_in_flow_children-slice_bounds-settle-start : goal.perform_final_layout_on_in_flow_children-slice_bounds-settle-start
perform_final_layout_on_in_flow_children-slice_bounds-settle-start t c = let next : ℕ = c.loop-child.child + c.word_in.result in let given : Facts c.args.words.now c.args.numbers.now c.args.rows.now c.args.marks.now c.args.edits.now c.args.base c.args.depth = facts _ _ _ _ _ _ _ c.requires in let Tabled : Tree Cell → Type 0 = λ k. TabledT c.args.words.now c.args.numbers.now c.args.rows.now c.args.marks.now c.args.edits.now c.args.base k in let turning : (k : Tree Cell) → Tabled k → Turn c.args.words.now c.args.numbers.now c.loop-child.rows c.loop-child.marks c.args.edits.now c.args.base c.args.frame k c.loop-child.cursor c.loop-child.child (next) = λ k h. turn _ _ _ _ _ _ _ k _ _ _ (ap (λ (n : ℕ). c.loop-child.child + n) c.word_in.ensures) (c.loop-child.invariant.4 k h) c.loop-child-test.true in let turned : Turn c.args.words.now c.args.numbers.now c.loop-child.rows c.loop-child.marks c.args.edits.now c.args.base c.args.frame c.requires.tree c.loop-child.cursor c.loop-child.child (next) = turning c.requires.tree c.requires.tabled in let f = turned in let g = given in omega arith

pub perform_final_layout_on_in_flow_children-slice_bounds-settle-end : goal.perform_final_layout_on_in_flow_children-slice_bounds-settle-end
perform_final_layout_on_in_flow_children-slice_bounds-settle-end t c = let next : ℕ = c.loop-child.child + c.word_in.result in let given : Facts c.args.words.now c.args.numbers.now c.args.rows.now c.args.marks.now c.args.edits.now c.args.base c.args.depth = facts _ _ _ _ _ _ _ c.requires in let Tabled : Tree Cell → Type 0 = λ k. TabledT c.args.words.now c.args.numbers.now c.args.rows.now c.args.marks.now c.args.edits.now c.args.base k in let turning : (k : Tree Cell) → Tabled k → Turn c.args.words.now c.args.numbers.now c.loop-child.rows c.loop-child.marks c.args.edits.now c.args.base c.args.frame k c.loop-child.cursor c.loop-child.child (next) = λ k h. turn _ _ _ _ _ _ _ k _ _ _ (ap (λ (n : ℕ). c.loop-child.child + n) c.word_in.ensures) (c.loop-child.invariant.4 k h) c.loop-child-test.true in let turned : Turn c.args.words.now c.args.numbers.now c.loop-child.rows c.loop-child.marks c.args.edits.now c.args.base c.args.frame c.requires.tree c.loop-child.cursor c.loop-child.child (next) = turning c.requires.tree c.requires.tabled in let f = turned in let g = given in omega arith

pub perform_final_layout_on_in_flow_children-offset_bounds-marks-m0-in-In-2 : goal.perform_final_layout_on_in_flow_children-offset_bounds-marks-m0-in-In-2
perform_final_layout_on_in_flow_children-offset_bounds-marks-m0-in-In-2 t c = let next : ℕ = c.loop-child.child + c.word_in.result in let given : Facts c.args.words.now c.args.numbers.now c.args.rows.now c.args.marks.now c.args.edits.now c.args.base c.args.depth = facts _ _ _ _ _ _ _ c.requires in let Tabled : Tree Cell → Type 0 = λ k. TabledT c.args.words.now c.args.numbers.now c.args.rows.now c.args.marks.now c.args.edits.now c.args.base k in let turning : (k : Tree Cell) → Tabled k → Turn c.args.words.now c.args.numbers.now c.loop-child.rows c.loop-child.marks c.args.edits.now c.args.base c.args.frame k c.loop-child.cursor c.loop-child.child (next) = λ k h. turn _ _ _ _ _ _ _ k _ _ _ (ap (λ (n : ℕ). c.loop-child.child + n) c.word_in.ensures) (c.loop-child.invariant.4 k h) c.loop-child-test.true in let turned : Turn c.args.words.now c.args.numbers.now c.loop-child.rows c.loop-child.marks c.args.edits.now c.args.base c.args.frame c.requires.tree c.loop-child.cursor c.loop-child.child (next) = turning c.requires.tree c.requires.tabled in let f = turned in let g = given in omega arith

pub perform_final_layout_on_in_flow_children-slice_bounds-settle-count-in-In : goal.perform_final_layout_on_in_flow_children-slice_bounds-settle-count-in-In
perform_final_layout_on_in_flow_children-slice_bounds-settle-count-in-In t c = let next : ℕ = c.loop-child.child + c.word_in.result in let given : Facts c.args.words.now c.args.numbers.now c.args.rows.now c.args.marks.now c.args.edits.now c.args.base c.args.depth = facts _ _ _ _ _ _ _ c.requires in let Tabled : Tree Cell → Type 0 = λ k. TabledT c.args.words.now c.args.numbers.now c.args.rows.now c.args.marks.now c.args.edits.now c.args.base k in let turning : (k : Tree Cell) → Tabled k → Turn c.args.words.now c.args.numbers.now c.loop-child.rows c.loop-child.marks c.args.edits.now c.args.base c.args.frame k c.loop-child.cursor c.loop-child.child (next) = λ k h. turn _ _ _ _ _ _ _ k _ _ _ (ap (λ (n : ℕ). c.loop-child.child + n) c.word_in.ensures) (c.loop-child.invariant.4 k h) c.loop-child-test.true in let turned : Turn c.args.words.now c.args.numbers.now c.loop-child.rows c.loop-child.marks c.args.edits.now c.args.base c.args.frame c.requires.tree c.loop-child.cursor c.loop-child.child (next) = turning c.requires.tree c.requires.tabled in let f = turned in let g = given in omega arith

pub perform_final_layout_on_in_flow_children-slice_bounds-settle-start-in-In : goal.perform_final_layout_on_in_flow_children-slice_bounds-settle-start-in-In
perform_final_layout_on_in_flow_children-slice_bounds-settle-start-in-In t c = let next : ℕ = c.loop-child.child + c.word_in.result in let given : Facts c.args.words.now c.args.numbers.now c.args.rows.now c.args.marks.now c.args.edits.now c.args.base c.args.depth = facts _ _ _ _ _ _ _ c.requires in let Tabled : Tree Cell → Type 0 = λ k. TabledT c.args.words.now c.args.numbers.now c.args.rows.now c.args.marks.now c.args.edits.now c.args.base k in let turning : (k : Tree Cell) → Tabled k → Turn c.args.words.now c.args.numbers.now c.loop-child.rows c.loop-child.marks c.args.edits.now c.args.base c.args.frame k c.loop-child.cursor c.loop-child.child (next) = λ k h. turn _ _ _ _ _ _ _ k _ _ _ (ap (λ (n : ℕ). c.loop-child.child + n) c.word_in.ensures) (c.loop-child.invariant.4 k h) c.loop-child-test.true in let turned : Turn c.args.words.now c.args.numbers.now c.loop-child.rows c.loop-child.marks c.args.edits.now c.args.base c.args.frame c.requires.tree c.loop-child.cursor c.loop-child.child (next) = turning c.requires.tree c.requires.tabled in let f = turned in let g = given in omega arith

pub perform_final_layout_on_in_flow_children-slice_bounds-settle-end-in-In : goal.perform_final_layout_on_in_flow_children-slice_bounds-settle-end-in-In
perform_final_layout_on_in_flow_children-slice_bounds-settle-end-in-In t c = let next : ℕ = c.loop-child.child + c.word_in.result in let given : Facts c.args.words.now c.args.numbers.now c.args.rows.now c.args.marks.now c.args.edits.now c.args.base c.args.depth = facts _ _ _ _ _ _ _ c.requires in let Tabled : Tree Cell → Type 0 = λ k. TabledT c.args.words.now c.args.numbers.now c.args.rows.now c.args.marks.now c.args.edits.now c.args.base k in let turning : (k : Tree Cell) → Tabled k → Turn c.args.words.now c.args.numbers.now c.loop-child.rows c.loop-child.marks c.args.edits.now c.args.base c.args.frame k c.loop-child.cursor c.loop-child.child (next) = λ k h. turn _ _ _ _ _ _ _ k _ _ _ (ap (λ (n : ℕ). c.loop-child.child + n) c.word_in.ensures) (c.loop-child.invariant.4 k h) c.loop-child-test.true in let turned : Turn c.args.words.now c.args.numbers.now c.loop-child.rows c.loop-child.marks c.args.edits.now c.args.base c.args.frame c.requires.tree c.loop-child.cursor c.loop-child.child (next) = turning c.requires.tree c.requires.tabled in let f = turned in let g = given in omega arith

pub perform_final_layout_on_in_flow_children-settle-cursor-requires : goal.perform_final_layout_on_in_flow_children-settle-cursor-requires
perform_final_layout_on_in_flow_children-settle-cursor-requires t c = let next : ℕ = c.loop-child.child + c.word_in.result in let given : Facts c.args.words.now c.args.numbers.now c.args.rows.now c.args.marks.now c.args.edits.now c.args.base c.args.depth = facts _ _ _ _ _ _ _ c.requires in let Tabled : Tree Cell → Type 0 = λ k. TabledT c.args.words.now c.args.numbers.now c.args.rows.now c.args.marks.now c.args.edits.now c.args.base k in let turning : (k : Tree Cell) → Tabled k → Turn c.args.words.now c.args.numbers.now c.loop-child.rows c.loop-child.marks c.args.edits.now c.args.base c.args.frame k c.loop-child.cursor c.loop-child.child (next) = λ k h. turn _ _ _ _ _ _ _ k _ _ _ (ap (λ (n : ℕ). c.loop-child.child + n) c.word_in.ensures) (c.loop-child.invariant.4 k h) c.loop-child-test.true in let turned : Turn c.args.words.now c.args.numbers.now c.loop-child.rows c.loop-child.marks c.args.edits.now c.args.base c.args.frame c.requires.tree c.loop-child.cursor c.loop-child.child (next) = turning c.requires.tree c.requires.tabled in let its-words : List ℕ = take (4 * next - 4 * c.loop-child.child) (drop (4 * c.loop-child.child) c.args.words.now) in let its-rows : List Float = take (16 * next - 16 * c.loop-child.child) (drop (16 * c.loop-child.child) c.loop-child.rows) in let its-marks : List ℕ = take (2 * next - 2 * c.loop-child.child) (drop (2 * c.loop-child.child) c.loop-child.marks) in let child : IsTree (its-words) c.args.numbers.now (its-rows) (its-marks) c.args.edits.now (c.args.base + c.loop-child.child) (c.args.depth - 1) = let f = turned in let w = c.requires.fit in let u = c.requires.reach in let v = c.requires.tabled.words_long in record { tree = f.tree; tabled = f.tabled; deep = f.shallow c.args.depth c.requires.deep; fit = omega arith; reach = omega arith } in let counts : Counts c.loop-child.cursor = let f = turned in let g = given in let i = c.loop-child.invariant in record { shown = omega (arith, i.3.1); count = omega (arith, i.3.0) } in let k = facts _ _ _ _ _ _ _ (child) in let r = k.room in record { room = record { rows_some = omega arith; marks_some = omega arith }; counts = counts }

pub perform_final_layout_on_in_flow_children-loop-child-smaller-in-Gone : goal.perform_final_layout_on_in_flow_children-loop-child-smaller-in-Gone
perform_final_layout_on_in_flow_children-loop-child-smaller-in-Gone t c = let next : ℕ = c.loop-child.child + c.word_in.result in let Tabled : Tree Cell → Type 0 = λ k. TabledT c.args.words.now c.args.numbers.now c.args.rows.now c.args.marks.now c.args.edits.now c.args.base k in let turning : (k : Tree Cell) → Tabled k → Turn c.args.words.now c.args.numbers.now c.loop-child.rows c.loop-child.marks c.args.edits.now c.args.base c.args.frame k c.loop-child.cursor c.loop-child.child (next) = λ k h. turn _ _ _ _ _ _ _ k _ _ _ (ap (λ (n : ℕ). c.loop-child.child + n) c.word_in.ensures) (c.loop-child.invariant.4 k h) c.loop-child-test.true in let turned : Turn c.args.words.now c.args.numbers.now c.loop-child.rows c.loop-child.marks c.args.edits.now c.args.base c.args.frame c.requires.tree c.loop-child.cursor c.loop-child.child (next) = turning c.requires.tree c.requires.tabled in let f = turned in shorter _ _ _ f.some f.words_in_lem

pub perform_final_layout_on_in_flow_children-loop-child-preserved-in-Gone : goal.perform_final_layout_on_in_flow_children-loop-child-preserved-in-Gone
perform_final_layout_on_in_flow_children-loop-child-preserved-in-Gone t c = let next : ℕ = c.loop-child.child + c.word_in.result in let Tabled : Tree Cell → Type 0 = λ k. TabledT c.args.words.now c.args.numbers.now c.args.rows.now c.args.marks.now c.args.edits.now c.args.base k in let turning : (k : Tree Cell) → Tabled k → Turn c.args.words.now c.args.numbers.now c.loop-child.rows c.loop-child.marks c.args.edits.now c.args.base c.args.frame k c.loop-child.cursor c.loop-child.child (next) = λ k h. turn _ _ _ _ _ _ _ k _ _ _ (ap (λ (n : ℕ). c.loop-child.child + n) c.word_in.ensures) (c.loop-child.invariant.4 k h) c.loop-child-test.true in let turned : Turn c.args.words.now c.args.numbers.now c.loop-child.rows c.loop-child.marks c.args.edits.now c.args.base c.args.frame c.requires.tree c.loop-child.cursor c.loop-child.child (next) = turning c.requires.tree c.requires.tabled in let its-words : List ℕ = take (4 * next - 4 * c.loop-child.child) (drop (4 * c.loop-child.child) c.args.words.now) in let its-rows : List Float = take (16 * next - 16 * c.loop-child.child) (drop (16 * c.loop-child.child) c.loop-child.rows) in let its-marks : List ℕ = take (2 * next - 2 * c.loop-child.child) (drop (2 * c.loop-child.child) c.loop-child.marks) in let with_rows : List Float → List Float → List Float = λ rs nr. put_mid (16 * c.loop-child.child) (16 * next - 16 * c.loop-child.child) rs nr in let with-marks : List ℕ → List ℕ → List ℕ = λ ms nm. put_mid (2 * c.loop-child.child) (2 * next - 2 * c.loop-child.child) ms nm in let ChildPlaced : Cursor → List Float → List ℕ → Type 0 = λ end nr nm. PlacedT (its-words) c.args.numbers.now (its-rows) (its-marks) c.args.edits.now (c.args.base + c.loop-child.child) c.args.frame c.loop-child.cursor end nr nm in let counted-on : (end : Cursor) (nr : List Float) (nm : List ℕ) → ChildPlaced end nr nm → (end.count ≤ next) × (end.shown.0 ≤ next) = λ end nr nm p. let f = turned in let k = f.counted _ (p f.tree f.tabled).0 in let i = c.loop-child.invariant.3 in counted_to c.loop-child.child (next) c.loop-child.cursor.count c.loop-child.cursor.shown.0 end.count end.shown.0 f.some i.0 i.1 k.0 k.1 in let rest-on : (end : Cursor) (nr : List Float) (nm : List ℕ) → ChildPlaced end nr nm → (k : Tree Cell) → Tabled k → RestT c.args.words.now c.args.numbers.now (with_rows c.loop-child.rows nr) (with-marks c.loop-child.marks nm) c.args.edits.now c.args.base c.args.frame k end (next) = λ end nr nm p k h. let g = turning k h in g.next _ _ _ (p g.tree g.tabled) in let rows_long : (nr : List Float) → length nr ≡ length (its-rows) → length (with_rows c.loop-child.rows nr) ≡ length c.args.rows.now = λ nr e. same_len_mid (16 * c.loop-child.child) (16 * next - 16 * c.loop-child.child) c.loop-child.rows nr e ∙ c.loop-child.invariant.0 in let marks_long : (nm : List ℕ) → length nm ≡ length (its-marks) → length (with-marks c.loop-child.marks nm) ≡ length c.args.marks.now = λ nm e. same_len_mid (2 * c.loop-child.child) (2 * next - 2 * c.loop-child.child) c.loop-child.marks nm e ∙ c.loop-child.invariant.1 in let hidden_placed : ChildPlaced c.pass_hidden-cursor.result c.pass_hidden-cursor.new.rows c.pass_hidden-cursor.new.marks = let flow_is = c.flow-flow.ensures ∙ flow_at_lem _ c.args.numbers.now (c.args.base + c.loop-child.child) in gone-placed _ c.args.numbers.now _ _ c.args.edits.now (c.args.base + c.loop-child.child) c.args.frame c.loop-child.cursor _ _ refl flow_is _ _ _ c.in-Gone.is c.pass_hidden-cursor.ensures in (rows_long c.pass_hidden-cursor.new.rows c.pass_hidden-cursor.auto.rows, marks_long c.pass_hidden-cursor.new.marks c.pass_hidden-cursor.auto.marks, (turned).words_in_lem, counted-on _ _ _ (hidden_placed), rest-on _ _ _ (hidden_placed))

pub perform_final_layout_on_in_flow_children-loop-child-smaller-in-Out : goal.perform_final_layout_on_in_flow_children-loop-child-smaller-in-Out
perform_final_layout_on_in_flow_children-loop-child-smaller-in-Out t c = let next : ℕ = c.loop-child.child + c.word_in.result in let Tabled : Tree Cell → Type 0 = λ k. TabledT c.args.words.now c.args.numbers.now c.args.rows.now c.args.marks.now c.args.edits.now c.args.base k in let turning : (k : Tree Cell) → Tabled k → Turn c.args.words.now c.args.numbers.now c.loop-child.rows c.loop-child.marks c.args.edits.now c.args.base c.args.frame k c.loop-child.cursor c.loop-child.child (next) = λ k h. turn _ _ _ _ _ _ _ k _ _ _ (ap (λ (n : ℕ). c.loop-child.child + n) c.word_in.ensures) (c.loop-child.invariant.4 k h) c.loop-child-test.true in let turned : Turn c.args.words.now c.args.numbers.now c.loop-child.rows c.loop-child.marks c.args.edits.now c.args.base c.args.frame c.requires.tree c.loop-child.cursor c.loop-child.child (next) = turning c.requires.tree c.requires.tabled in let f = turned in shorter _ _ _ f.some f.words_in_lem

pub perform_final_layout_on_in_flow_children-loop-child-preserved-in-Out : goal.perform_final_layout_on_in_flow_children-loop-child-preserved-in-Out
perform_final_layout_on_in_flow_children-loop-child-preserved-in-Out t c = let next : ℕ = c.loop-child.child + c.word_in.result in let Tabled : Tree Cell → Type 0 = λ k. TabledT c.args.words.now c.args.numbers.now c.args.rows.now c.args.marks.now c.args.edits.now c.args.base k in let turning : (k : Tree Cell) → Tabled k → Turn c.args.words.now c.args.numbers.now c.loop-child.rows c.loop-child.marks c.args.edits.now c.args.base c.args.frame k c.loop-child.cursor c.loop-child.child (next) = λ k h. turn _ _ _ _ _ _ _ k _ _ _ (ap (λ (n : ℕ). c.loop-child.child + n) c.word_in.ensures) (c.loop-child.invariant.4 k h) c.loop-child-test.true in let turned : Turn c.args.words.now c.args.numbers.now c.loop-child.rows c.loop-child.marks c.args.edits.now c.args.base c.args.frame c.requires.tree c.loop-child.cursor c.loop-child.child (next) = turning c.requires.tree c.requires.tabled in let its-words : List ℕ = take (4 * next - 4 * c.loop-child.child) (drop (4 * c.loop-child.child) c.args.words.now) in let its-rows : List Float = take (16 * next - 16 * c.loop-child.child) (drop (16 * c.loop-child.child) c.loop-child.rows) in let its-marks : List ℕ = take (2 * next - 2 * c.loop-child.child) (drop (2 * c.loop-child.child) c.loop-child.marks) in let with_rows : List Float → List Float → List Float = λ rs nr. put_mid (16 * c.loop-child.child) (16 * next - 16 * c.loop-child.child) rs nr in let with-marks : List ℕ → List ℕ → List ℕ = λ ms nm. put_mid (2 * c.loop-child.child) (2 * next - 2 * c.loop-child.child) ms nm in let ChildPlaced : Cursor → List Float → List ℕ → Type 0 = λ end nr nm. PlacedT (its-words) c.args.numbers.now (its-rows) (its-marks) c.args.edits.now (c.args.base + c.loop-child.child) c.args.frame c.loop-child.cursor end nr nm in let counted-on : (end : Cursor) (nr : List Float) (nm : List ℕ) → ChildPlaced end nr nm → (end.count ≤ next) × (end.shown.0 ≤ next) = λ end nr nm p. let f = turned in let k = f.counted _ (p f.tree f.tabled).0 in let i = c.loop-child.invariant.3 in counted_to c.loop-child.child (next) c.loop-child.cursor.count c.loop-child.cursor.shown.0 end.count end.shown.0 f.some i.0 i.1 k.0 k.1 in let rest-on : (end : Cursor) (nr : List Float) (nm : List ℕ) → ChildPlaced end nr nm → (k : Tree Cell) → Tabled k → RestT c.args.words.now c.args.numbers.now (with_rows c.loop-child.rows nr) (with-marks c.loop-child.marks nm) c.args.edits.now c.args.base c.args.frame k end (next) = λ end nr nm p k h. let g = turning k h in g.next _ _ _ (p g.tree g.tabled) in let rows_long : (nr : List Float) → length nr ≡ length (its-rows) → length (with_rows c.loop-child.rows nr) ≡ length c.args.rows.now = λ nr e. same_len_mid (16 * c.loop-child.child) (16 * next - 16 * c.loop-child.child) c.loop-child.rows nr e ∙ c.loop-child.invariant.0 in let marks_long : (nm : List ℕ) → length nm ≡ length (its-marks) → length (with-marks c.loop-child.marks nm) ≡ length c.args.marks.now = λ nm e. same_len_mid (2 * c.loop-child.child) (2 * next - 2 * c.loop-child.child) c.loop-child.marks nm e ∙ c.loop-child.invariant.1 in let aside-placed : ChildPlaced c.pass_aside-cursor.result c.pass_aside-cursor.new.rows c.pass_aside-cursor.new.marks = let flow_is = c.flow-flow.ensures ∙ flow_at_lem _ c.args.numbers.now (c.args.base + c.loop-child.child) in out-placed _ c.args.numbers.now _ _ c.args.edits.now (c.args.base + c.loop-child.child) c.args.frame c.loop-child.cursor _ _ refl flow_is _ _ _ c.in-Out.is c.pass_aside-cursor.ensures in (rows_long c.pass_aside-cursor.new.rows c.pass_aside-cursor.auto.rows, marks_long c.pass_aside-cursor.new.marks c.pass_aside-cursor.auto.marks, (turned).words_in_lem, counted-on _ _ _ (aside-placed), rest-on _ _ _ (aside-placed))

pub perform_final_layout_on_in_flow_children-loop-child-smaller : goal.perform_final_layout_on_in_flow_children-loop-child-smaller
perform_final_layout_on_in_flow_children-loop-child-smaller t c = let next : ℕ = c.loop-child.child + c.word_in.result in let Tabled : Tree Cell → Type 0 = λ k. TabledT c.args.words.now c.args.numbers.now c.args.rows.now c.args.marks.now c.args.edits.now c.args.base k in let turning : (k : Tree Cell) → Tabled k → Turn c.args.words.now c.args.numbers.now c.loop-child.rows c.loop-child.marks c.args.edits.now c.args.base c.args.frame k c.loop-child.cursor c.loop-child.child (next) = λ k h. turn _ _ _ _ _ _ _ k _ _ _ (ap (λ (n : ℕ). c.loop-child.child + n) c.word_in.ensures) (c.loop-child.invariant.4 k h) c.loop-child-test.true in let turned : Turn c.args.words.now c.args.numbers.now c.loop-child.rows c.loop-child.marks c.args.edits.now c.args.base c.args.frame c.requires.tree c.loop-child.cursor c.loop-child.child (next) = turning c.requires.tree c.requires.tabled in let f = turned in shorter _ _ _ f.some f.words_in_lem

pub perform_final_layout_on_in_flow_children-loop-child-preserved : goal.perform_final_layout_on_in_flow_children-loop-child-preserved
perform_final_layout_on_in_flow_children-loop-child-preserved t c = let next : ℕ = c.loop-child.child + c.word_in.result in let Tabled : Tree Cell → Type 0 = λ k. TabledT c.args.words.now c.args.numbers.now c.args.rows.now c.args.marks.now c.args.edits.now c.args.base k in let turning : (k : Tree Cell) → Tabled k → Turn c.args.words.now c.args.numbers.now c.loop-child.rows c.loop-child.marks c.args.edits.now c.args.base c.args.frame k c.loop-child.cursor c.loop-child.child (next) = λ k h. turn _ _ _ _ _ _ _ k _ _ _ (ap (λ (n : ℕ). c.loop-child.child + n) c.word_in.ensures) (c.loop-child.invariant.4 k h) c.loop-child-test.true in let turned : Turn c.args.words.now c.args.numbers.now c.loop-child.rows c.loop-child.marks c.args.edits.now c.args.base c.args.frame c.requires.tree c.loop-child.cursor c.loop-child.child (next) = turning c.requires.tree c.requires.tabled in let its-words : List ℕ = take (4 * next - 4 * c.loop-child.child) (drop (4 * c.loop-child.child) c.args.words.now) in let its-rows : List Float = take (16 * next - 16 * c.loop-child.child) (drop (16 * c.loop-child.child) c.loop-child.rows) in let its-marks : List ℕ = take (2 * next - 2 * c.loop-child.child) (drop (2 * c.loop-child.child) c.loop-child.marks) in let with_rows : List Float → List Float → List Float = λ rs nr. put_mid (16 * c.loop-child.child) (16 * next - 16 * c.loop-child.child) rs nr in let with-marks : List ℕ → List ℕ → List ℕ = λ ms nm. put_mid (2 * c.loop-child.child) (2 * next - 2 * c.loop-child.child) ms nm in let ChildPlaced : Cursor → List Float → List ℕ → Type 0 = λ end nr nm. PlacedT (its-words) c.args.numbers.now (its-rows) (its-marks) c.args.edits.now (c.args.base + c.loop-child.child) c.args.frame c.loop-child.cursor end nr nm in let counted-on : (end : Cursor) (nr : List Float) (nm : List ℕ) → ChildPlaced end nr nm → (end.count ≤ next) × (end.shown.0 ≤ next) = λ end nr nm p. let f = turned in let k = f.counted _ (p f.tree f.tabled).0 in let i = c.loop-child.invariant.3 in counted_to c.loop-child.child (next) c.loop-child.cursor.count c.loop-child.cursor.shown.0 end.count end.shown.0 f.some i.0 i.1 k.0 k.1 in let rest-on : (end : Cursor) (nr : List Float) (nm : List ℕ) → ChildPlaced end nr nm → (k : Tree Cell) → Tabled k → RestT c.args.words.now c.args.numbers.now (with_rows c.loop-child.rows nr) (with-marks c.loop-child.marks nm) c.args.edits.now c.args.base c.args.frame k end (next) = λ end nr nm p k h. let g = turning k h in g.next _ _ _ (p g.tree g.tabled) in let rows_long : (nr : List Float) → length nr ≡ length (its-rows) → length (with_rows c.loop-child.rows nr) ≡ length c.args.rows.now = λ nr e. same_len_mid (16 * c.loop-child.child) (16 * next - 16 * c.loop-child.child) c.loop-child.rows nr e ∙ c.loop-child.invariant.0 in let marks_long : (nm : List ℕ) → length nm ≡ length (its-marks) → length (with-marks c.loop-child.marks nm) ≡ length c.args.marks.now = λ nm e. same_len_mid (2 * c.loop-child.child) (2 * next - 2 * c.loop-child.child) c.loop-child.marks nm e ∙ c.loop-child.invariant.1 in let settled-placed : ChildPlaced c.settle-cursor.result c.settle-cursor.new.rows c.settle-cursor.new.marks = let flow_is = c.flow-flow.ensures ∙ flow_at_lem _ c.args.numbers.now (c.args.base + c.loop-child.child) in let f = turned in let again = settled-again c.loop-child.child (next) c.args.words.now c.loop-child.rows c.compute_child_layout-answer.new.rows c.loop-child.marks c.compute_child_layout-answer.new.marks f.some f.words_in_lem f.rows_long f.marks_long c.compute_child_layout-answer.auto.rows c.compute_child_layout-answer.auto.marks _ _ _ _ _ _ _ c.settle-cursor.ensures in in-placed _ c.args.numbers.now _ _ c.args.edits.now (c.args.base + c.loop-child.child) c.args.frame c.loop-child.cursor _ _ refl flow_is _ _ _ _ _ _ _ _ c.in-In.is c.plan_at-plan.ensures.input c.compute_child_layout-answer.ensures c.plan_at-plan.ensures.footing again in let nr = c.compute_child_layout-answer.new.rows in
    let nm = c.compute_child_layout-answer.new.marks in
    let hr = c.compute_child_layout-answer.auto.rows in
    let hm = c.compute_child_layout-answer.auto.marks in (
      same_len_mid (16 * c.loop-child.child) (16 * next - 16 * c.loop-child.child) (with_rows c.loop-child.rows nr) c.settle-cursor.new.rows c.settle-cursor.auto.rows ∙ rows_long nr hr,
      same_len_mid (2 * c.loop-child.child) (2 * next - 2 * c.loop-child.child) (with-marks c.loop-child.marks nm) c.settle-cursor.new.marks c.settle-cursor.auto.marks ∙ marks_long nm hm,
      (turned).words_in_lem,
      counted-on _ _ _ (settled-placed),
      λ k h. let g = turning k h in rest-again c.loop-child.child (next) c.args.words.now c.loop-child.rows nr c.loop-child.marks nm g.some g.words_in_lem g.rows_long g.marks_long hr hm c.args.numbers.now c.args.edits.now c.args.base c.args.frame k c.settle-cursor.result c.settle-cursor.new.rows c.settle-cursor.new.marks (rest-on _ _ _ (settled-placed) k h),
    )

pub perform_final_layout_on_in_flow_children-loop-child-init : goal.perform_final_layout_on_in_flow_children-loop-child-init
perform_final_layout_on_in_flow_children-loop-child-init t c = let g = facts _ _ _ _ _ _ _ c.requires in
    let e = c.start_of-cursor.ensures in
    let z = start_counts _ _ e in
    (refl, refl, omega arith, (omega (arith, z.0), omega (arith, z.1)), begin c.args.words.now c.args.numbers.now c.args.rows.now c.args.marks.now c.args.edits.now c.args.base c.args.frame _ e)

pub perform_final_layout_on_in_flow_children-overflow_mul-child : goal.perform_final_layout_on_in_flow_children-overflow_mul-child
perform_final_layout_on_in_flow_children-overflow_mul-child t c = let given : Facts c.args.words.now c.args.numbers.now c.args.rows.now c.args.marks.now c.args.edits.now c.args.base c.args.depth = facts _ _ _ _ _ _ _ c.requires in let g = given in omega (arith, c.loop-child.invariant.2)

pub perform_final_layout_on_in_flow_children-word_in-requires : goal.perform_final_layout_on_in_flow_children-word_in-requires
perform_final_layout_on_in_flow_children-word_in-requires t c = omega (arith, c.loop-child-test.true)

pub perform_final_layout_on_in_flow_children-shape_of-rows : goal.perform_final_layout_on_in_flow_children-shape_of-rows
perform_final_layout_on_in_flow_children-shape_of-rows t c = c.loop-child.invariant.0

pub perform_final_layout_on_in_flow_children-shape_of-marks : goal.perform_final_layout_on_in_flow_children-shape_of-marks
perform_final_layout_on_in_flow_children-shape_of-marks t c = c.loop-child.invariant.1

pub perform_final_layout_on_in_flow_children-returns : goal.perform_final_layout_on_in_flow_children-returns
perform_final_layout_on_in_flow_children-returns t c = λ l ks h. end c.args.words.now c.args.numbers.now _ _ c.args.edits.now c.args.base c.args.frame l ks _ _ _ c.loop-child-test.false c.stack_output.ensures (c.loop-child.invariant.4 (node l ks) h)
