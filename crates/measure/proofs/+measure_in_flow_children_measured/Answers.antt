use Prim.Native.Nat.{ℕ, ◌+◌, ◌*◌, ◌<◌}
use mathlib.Core.Path.{refl, sym, ap, ◌∙◌}
use Prim.Native.Nat.{ℕ}
use native.Mathlib.Omega.{arith}
use borrow.Author.Rules.{rules}
use Rattle.style.specs.Flow.{is_leaf}
use Rattle.style.specs.declared.Measure.{Measure}
use Rattle.reader.specs.Reader.{kind_at, measure_at_lem}
use Rattle.steps.specs.Through.{leaf_output}
use Rattle.measure.proofs.Sites.{facts}
use Rattle.measure.proofs.OneNode.{leaf-measured, block-measured}
use mathlib.Core.Path.{refl, ap, ◌∙◌}
use Prim.Native.Nat.{ℕ, ◌+◌, ◌*◌, ◌-◌, ◌<◌, ◌≤◌}
use lib.ListN.{length, take, drop}
use Rattle.reader.specs.Reader.{flow_at_lem}
use Rattle.tree.specs.Tree.{Tree, node}
use Rattle.steps.specs.Page.{Site}
use Rattle.steps.specs.Stack.{Counts}
use Rattle.steps.specs.declared.Cursor.{Cursor}
use Rattle.heights.specs.Leaves.{stack_leaves}
use Rattle.compute.proofs.Counting.{counted_to, shorter}
use Rattle.compute.proofs.StackLoop.{start_counts}
use Rattle.measure.specs.Contract.{SitesT, IsTree}
use Rattle.measure.proofs.Sites.{Facts, facts}
use Rattle.measure.proofs.Loops.{StackRestT, StackTurnT, stack_begin, stack_turn, stack_end, past_counts}
use Rattle.measure.proofs.OneNode.{Passed, gone-passed, out-passed, in-passed}
use Rattle.measure.proofs.+measure_in_flow_children_measured.Goals as goal

pub measured-is_leaf-requires : goal.measured-is_leaf-requires
measured-is_leaf-requires t c = (facts _ _ _ _ c.requires).words_some

pub measured-returns-then-is_leaf : goal.measured-returns-then-is_leaf
measured-returns-then-is_leaf t c = leaf-measured c.args.words.now c.args.numbers.now c.args.base _ refl c.args.input c.args.found _ (ap is_leaf (sym (kind_at c.args.words.now c.args.numbers.now c.args.base)) ∙ sym c.is_leaf.ensures ∙ c.if-is_leaf.true) (c.leaf_at.ensures ∙ ap (λ (m : Measure). leaf_output m c.args.input) (measure_at_lem c.args.words.now c.args.numbers.now c.args.base))

pub measured-frame_at-frame-requires : goal.measured-frame_at-frame-requires
measured-frame_at-frame-requires t c = let g = facts _ _ _ _ c.requires in (g.words_some, g.reach)

pub measured-measure_in_flow_children-stack-requires : goal.measured-measure_in_flow_children-stack-requires
measured-measure_in_flow_children-stack-requires t c = (omega (arith, c.decreases), c.requires)

pub measured-finish-requires : goal.measured-finish-requires
measured-finish-requires t c = let g = facts _ _ _ _ c.requires in
    (g.words_some, g.reach)

pub measured-returns : goal.measured-returns
measured-returns t c = block-measured c.args.words.now c.args.numbers.now c.args.base _ refl c.args.input c.args.found _ _ _ (ap is_leaf (sym (kind_at c.args.words.now c.args.numbers.now c.args.base)) ∙ sym c.is_leaf.ensures ∙ c.if-is_leaf.false) c.frame_at-frame.ensures c.measure_in_flow_children-stack.ensures c.finish.ensures

pub measure_in_flow_children-loop-child-init : goal.measure_in_flow_children-loop-child-init
measure_in_flow_children-loop-child-init t c = let g = facts _ _ _ _ c.requires in
    let e = c.start_of-cursor.ensures in
    let z = start_counts _ _ e in
    (omega arith, (omega (arith, z.0), omega (arith, z.1)), stack_begin c.args.words.now c.args.numbers.now c.args.base c.args.frame _ e)

pub measure_in_flow_children-overflow_mul-child : goal.measure_in_flow_children-overflow_mul-child
measure_in_flow_children-overflow_mul-child t c = let given : Facts c.args.words.now c.args.numbers.now c.args.base c.args.depth = facts _ _ _ _ c.requires in let g = given in omega (arith, c.loop-child.invariant.0)

pub measure_in_flow_children-word_in-requires : goal.measure_in_flow_children-word_in-requires
measure_in_flow_children-word_in-requires t c = omega (arith, c.loop-child-test.true)

pub measure_in_flow_children-overflow_cast-end : goal.measure_in_flow_children-overflow_cast-end
measure_in_flow_children-overflow_cast-end t c = let next : ℕ = c.loop-child.child + c.word_in.result in let given : Facts c.args.words.now c.args.numbers.now c.args.base c.args.depth = facts _ _ _ _ c.requires in let turning : (k : Tree Site) → SitesT c.args.words.now c.args.numbers.now c.args.base k → StackTurnT c.args.words.now c.args.numbers.now c.args.base c.args.frame k c.loop-child.cursor c.loop-child.child (next) = λ k h. stack_turn _ _ _ _ k _ _ _ (ap (λ (n : ℕ). c.loop-child.child + n) c.word_in.ensures) (c.loop-child.invariant.2 k h) c.loop-child-test.true in let turned : StackTurnT c.args.words.now c.args.numbers.now c.args.base c.args.frame c.requires.tree c.loop-child.cursor c.loop-child.child (next) = turning c.requires.tree c.requires.sites in let f = turned in let g = given in omega arith

pub measure_in_flow_children-overflow_add-end : goal.measure_in_flow_children-overflow_add-end
measure_in_flow_children-overflow_add-end t c = let next : ℕ = c.loop-child.child + c.word_in.result in let given : Facts c.args.words.now c.args.numbers.now c.args.base c.args.depth = facts _ _ _ _ c.requires in let turning : (k : Tree Site) → SitesT c.args.words.now c.args.numbers.now c.args.base k → StackTurnT c.args.words.now c.args.numbers.now c.args.base c.args.frame k c.loop-child.cursor c.loop-child.child (next) = λ k h. stack_turn _ _ _ _ k _ _ _ (ap (λ (n : ℕ). c.loop-child.child + n) c.word_in.ensures) (c.loop-child.invariant.2 k h) c.loop-child-test.true in let turned : StackTurnT c.args.words.now c.args.numbers.now c.args.base c.args.frame c.requires.tree c.loop-child.cursor c.loop-child.child (next) = turning c.requires.tree c.requires.sites in let f = turned in let g = given in omega arith

pub measure_in_flow_children-overflow_mul-w0 : goal.measure_in_flow_children-overflow_mul-w0
measure_in_flow_children-overflow_mul-w0 t c = let next : ℕ = c.loop-child.child + c.word_in.result in let given : Facts c.args.words.now c.args.numbers.now c.args.base c.args.depth = facts _ _ _ _ c.requires in let turning : (k : Tree Site) → SitesT c.args.words.now c.args.numbers.now c.args.base k → StackTurnT c.args.words.now c.args.numbers.now c.args.base c.args.frame k c.loop-child.cursor c.loop-child.child (next) = λ k h. stack_turn _ _ _ _ k _ _ _ (ap (λ (n : ℕ). c.loop-child.child + n) c.word_in.ensures) (c.loop-child.invariant.2 k h) c.loop-child-test.true in let turned : StackTurnT c.args.words.now c.args.numbers.now c.args.base c.args.frame c.requires.tree c.loop-child.cursor c.loop-child.child (next) = turning c.requires.tree c.requires.sites in let f = turned in let g = given in omega arith

pub measure_in_flow_children-overflow_mul-w1 : goal.measure_in_flow_children-overflow_mul-w1
measure_in_flow_children-overflow_mul-w1 t c = let next : ℕ = c.loop-child.child + c.word_in.result in let given : Facts c.args.words.now c.args.numbers.now c.args.base c.args.depth = facts _ _ _ _ c.requires in let turning : (k : Tree Site) → SitesT c.args.words.now c.args.numbers.now c.args.base k → StackTurnT c.args.words.now c.args.numbers.now c.args.base c.args.frame k c.loop-child.cursor c.loop-child.child (next) = λ k h. stack_turn _ _ _ _ k _ _ _ (ap (λ (n : ℕ). c.loop-child.child + n) c.word_in.ensures) (c.loop-child.invariant.2 k h) c.loop-child-test.true in let turned : StackTurnT c.args.words.now c.args.numbers.now c.args.base c.args.frame c.requires.tree c.loop-child.cursor c.loop-child.child (next) = turning c.requires.tree c.requires.sites in let f = turned in let g = given in omega arith

pub measure_in_flow_children-offset_bounds-words-w0 : goal.measure_in_flow_children-offset_bounds-words-w0
measure_in_flow_children-offset_bounds-words-w0 t c = let next : ℕ = c.loop-child.child + c.word_in.result in let given : Facts c.args.words.now c.args.numbers.now c.args.base c.args.depth = facts _ _ _ _ c.requires in let turning : (k : Tree Site) → SitesT c.args.words.now c.args.numbers.now c.args.base k → StackTurnT c.args.words.now c.args.numbers.now c.args.base c.args.frame k c.loop-child.cursor c.loop-child.child (next) = λ k h. stack_turn _ _ _ _ k _ _ _ (ap (λ (n : ℕ). c.loop-child.child + n) c.word_in.ensures) (c.loop-child.invariant.2 k h) c.loop-child-test.true in let turned : StackTurnT c.args.words.now c.args.numbers.now c.args.base c.args.frame c.requires.tree c.loop-child.cursor c.loop-child.child (next) = turning c.requires.tree c.requires.sites in let f = turned in let g = given in omega arith

pub measure_in_flow_children-slice_bounds-flow-count : goal.measure_in_flow_children-slice_bounds-flow-count
measure_in_flow_children-slice_bounds-flow-count t c = let next : ℕ = c.loop-child.child + c.word_in.result in let given : Facts c.args.words.now c.args.numbers.now c.args.base c.args.depth = facts _ _ _ _ c.requires in let turning : (k : Tree Site) → SitesT c.args.words.now c.args.numbers.now c.args.base k → StackTurnT c.args.words.now c.args.numbers.now c.args.base c.args.frame k c.loop-child.cursor c.loop-child.child (next) = λ k h. stack_turn _ _ _ _ k _ _ _ (ap (λ (n : ℕ). c.loop-child.child + n) c.word_in.ensures) (c.loop-child.invariant.2 k h) c.loop-child-test.true in let turned : StackTurnT c.args.words.now c.args.numbers.now c.args.base c.args.frame c.requires.tree c.loop-child.cursor c.loop-child.child (next) = turning c.requires.tree c.requires.sites in let f = turned in let g = given in omega arith

pub measure_in_flow_children-slice_bounds-flow-start : goal.measure_in_flow_children-slice_bounds-flow-start
measure_in_flow_children-slice_bounds-flow-start t c = let next : ℕ = c.loop-child.child + c.word_in.result in let given : Facts c.args.words.now c.args.numbers.now c.args.base c.args.depth = facts _ _ _ _ c.requires in let turning : (k : Tree Site) → SitesT c.args.words.now c.args.numbers.now c.args.base k → StackTurnT c.args.words.now c.args.numbers.now c.args.base c.args.frame k c.loop-child.cursor c.loop-child.child (next) = λ k h. stack_turn _ _ _ _ k _ _ _ (ap (λ (n : ℕ). c.loop-child.child + n) c.word_in.ensures) (c.loop-child.invariant.2 k h) c.loop-child-test.true in let turned : StackTurnT c.args.words.now c.args.numbers.now c.args.base c.args.frame c.requires.tree c.loop-child.cursor c.loop-child.child (next) = turning c.requires.tree c.requires.sites in let f = turned in let g = given in omega arith

pub measure_in_flow_children-slice_bounds-flow-end : goal.measure_in_flow_children-slice_bounds-flow-end
measure_in_flow_children-slice_bounds-flow-end t c = let next : ℕ = c.loop-child.child + c.word_in.result in let given : Facts c.args.words.now c.args.numbers.now c.args.base c.args.depth = facts _ _ _ _ c.requires in let turning : (k : Tree Site) → SitesT c.args.words.now c.args.numbers.now c.args.base k → StackTurnT c.args.words.now c.args.numbers.now c.args.base c.args.frame k c.loop-child.cursor c.loop-child.child (next) = λ k h. stack_turn _ _ _ _ k _ _ _ (ap (λ (n : ℕ). c.loop-child.child + n) c.word_in.ensures) (c.loop-child.invariant.2 k h) c.loop-child-test.true in let turned : StackTurnT c.args.words.now c.args.numbers.now c.args.base c.args.frame c.requires.tree c.loop-child.cursor c.loop-child.child (next) = turning c.requires.tree c.requires.sites in let f = turned in let g = given in omega arith

pub measure_in_flow_children-flow-flow-requires : goal.measure_in_flow_children-flow-flow-requires
measure_in_flow_children-flow-flow-requires t c = let next : ℕ = c.loop-child.child + c.word_in.result in let turning : (k : Tree Site) → SitesT c.args.words.now c.args.numbers.now c.args.base k → StackTurnT c.args.words.now c.args.numbers.now c.args.base c.args.frame k c.loop-child.cursor c.loop-child.child (next) = λ k h. stack_turn _ _ _ _ k _ _ _ (ap (λ (n : ℕ). c.loop-child.child + n) c.word_in.ensures) (c.loop-child.invariant.2 k h) c.loop-child-test.true in let turned : StackTurnT c.args.words.now c.args.numbers.now c.args.base c.args.frame c.requires.tree c.loop-child.cursor c.loop-child.child (next) = turning c.requires.tree c.requires.sites in let child : IsTree (take (4 * next - 4 * c.loop-child.child) (drop (4 * c.loop-child.child) c.args.words.now)) c.args.numbers.now (c.args.base + c.loop-child.child) (c.args.depth - 1) = let f = turned in let w = c.requires.fit in let u = c.requires.reach in let v = c.requires.sites.words_long in record { tree = f.tree; sites = f.sites; deep = f.shallow c.args.depth c.requires.deep; fit = omega arith; reach = omega arith } in (facts _ _ _ _ (child)).words_some

pub measure_in_flow_children-past_hidden-cursor-requires : goal.measure_in_flow_children-past_hidden-cursor-requires
measure_in_flow_children-past_hidden-cursor-requires t c = let next : ℕ = c.loop-child.child + c.word_in.result in let given : Facts c.args.words.now c.args.numbers.now c.args.base c.args.depth = facts _ _ _ _ c.requires in let turning : (k : Tree Site) → SitesT c.args.words.now c.args.numbers.now c.args.base k → StackTurnT c.args.words.now c.args.numbers.now c.args.base c.args.frame k c.loop-child.cursor c.loop-child.child (next) = λ k h. stack_turn _ _ _ _ k _ _ _ (ap (λ (n : ℕ). c.loop-child.child + n) c.word_in.ensures) (c.loop-child.invariant.2 k h) c.loop-child-test.true in let turned : StackTurnT c.args.words.now c.args.numbers.now c.args.base c.args.frame c.requires.tree c.loop-child.cursor c.loop-child.child (next) = turning c.requires.tree c.requires.sites in let counts : Counts c.loop-child.cursor = let f = turned in let g = given in let i = c.loop-child.invariant in record { shown = omega (arith, i.1.1); count = omega (arith, i.1.0) } in counts

pub measure_in_flow_children-past_aside-cursor-requires : goal.measure_in_flow_children-past_aside-cursor-requires
measure_in_flow_children-past_aside-cursor-requires t c = let next : ℕ = c.loop-child.child + c.word_in.result in let given : Facts c.args.words.now c.args.numbers.now c.args.base c.args.depth = facts _ _ _ _ c.requires in let turning : (k : Tree Site) → SitesT c.args.words.now c.args.numbers.now c.args.base k → StackTurnT c.args.words.now c.args.numbers.now c.args.base c.args.frame k c.loop-child.cursor c.loop-child.child (next) = λ k h. stack_turn _ _ _ _ k _ _ _ (ap (λ (n : ℕ). c.loop-child.child + n) c.word_in.ensures) (c.loop-child.invariant.2 k h) c.loop-child-test.true in let turned : StackTurnT c.args.words.now c.args.numbers.now c.args.base c.args.frame c.requires.tree c.loop-child.cursor c.loop-child.child (next) = turning c.requires.tree c.requires.sites in let counts : Counts c.loop-child.cursor = let f = turned in let g = given in let i = c.loop-child.invariant in record { shown = omega (arith, i.1.1); count = omega (arith, i.1.0) } in counts

pub measure_in_flow_children-offset_bounds-words-w0-in-In : goal.measure_in_flow_children-offset_bounds-words-w0-in-In
measure_in_flow_children-offset_bounds-words-w0-in-In t c = let next : ℕ = c.loop-child.child + c.word_in.result in let given : Facts c.args.words.now c.args.numbers.now c.args.base c.args.depth = facts _ _ _ _ c.requires in let turning : (k : Tree Site) → SitesT c.args.words.now c.args.numbers.now c.args.base k → StackTurnT c.args.words.now c.args.numbers.now c.args.base c.args.frame k c.loop-child.cursor c.loop-child.child (next) = λ k h. stack_turn _ _ _ _ k _ _ _ (ap (λ (n : ℕ). c.loop-child.child + n) c.word_in.ensures) (c.loop-child.invariant.2 k h) c.loop-child-test.true in let turned : StackTurnT c.args.words.now c.args.numbers.now c.args.base c.args.frame c.requires.tree c.loop-child.cursor c.loop-child.child (next) = turning c.requires.tree c.requires.sites in let f = turned in let g = given in omega arith

pub measure_in_flow_children-slice_bounds-plan_at-count : goal.measure_in_flow_children-slice_bounds-plan_at-count
measure_in_flow_children-slice_bounds-plan_at-count t c = let next : ℕ = c.loop-child.child + c.word_in.result in let given : Facts c.args.words.now c.args.numbers.now c.args.base c.args.depth = facts _ _ _ _ c.requires in let turning : (k : Tree Site) → SitesT c.args.words.now c.args.numbers.now c.args.base k → StackTurnT c.args.words.now c.args.numbers.now c.args.base c.args.frame k c.loop-child.cursor c.loop-child.child (next) = λ k h. stack_turn _ _ _ _ k _ _ _ (ap (λ (n : ℕ). c.loop-child.child + n) c.word_in.ensures) (c.loop-child.invariant.2 k h) c.loop-child-test.true in let turned : StackTurnT c.args.words.now c.args.numbers.now c.args.base c.args.frame c.requires.tree c.loop-child.cursor c.loop-child.child (next) = turning c.requires.tree c.requires.sites in let f = turned in let g = given in omega arith

pub measure_in_flow_children-slice_bounds-plan_at-start : goal.measure_in_flow_children-slice_bounds-plan_at-start
measure_in_flow_children-slice_bounds-plan_at-start t c = let next : ℕ = c.loop-child.child + c.word_in.result in let given : Facts c.args.words.now c.args.numbers.now c.args.base c.args.depth = facts _ _ _ _ c.requires in let turning : (k : Tree Site) → SitesT c.args.words.now c.args.numbers.now c.args.base k → StackTurnT c.args.words.now c.args.numbers.now c.args.base c.args.frame k c.loop-child.cursor c.loop-child.child (next) = λ k h. stack_turn _ _ _ _ k _ _ _ (ap (λ (n : ℕ). c.loop-child.child + n) c.word_in.ensures) (c.loop-child.invariant.2 k h) c.loop-child-test.true in let turned : StackTurnT c.args.words.now c.args.numbers.now c.args.base c.args.frame c.requires.tree c.loop-child.cursor c.loop-child.child (next) = turning c.requires.tree c.requires.sites in let f = turned in let g = given in omega arith

pub measure_in_flow_children-slice_bounds-plan_at-end : goal.measure_in_flow_children-slice_bounds-plan_at-end
measure_in_flow_children-slice_bounds-plan_at-end t c = let next : ℕ = c.loop-child.child + c.word_in.result in let given : Facts c.args.words.now c.args.numbers.now c.args.base c.args.depth = facts _ _ _ _ c.requires in let turning : (k : Tree Site) → SitesT c.args.words.now c.args.numbers.now c.args.base k → StackTurnT c.args.words.now c.args.numbers.now c.args.base c.args.frame k c.loop-child.cursor c.loop-child.child (next) = λ k h. stack_turn _ _ _ _ k _ _ _ (ap (λ (n : ℕ). c.loop-child.child + n) c.word_in.ensures) (c.loop-child.invariant.2 k h) c.loop-child-test.true in let turned : StackTurnT c.args.words.now c.args.numbers.now c.args.base c.args.frame c.requires.tree c.loop-child.cursor c.loop-child.child (next) = turning c.requires.tree c.requires.sites in let f = turned in let g = given in omega arith

pub measure_in_flow_children-overflow_add-base : goal.measure_in_flow_children-overflow_add-base
measure_in_flow_children-overflow_add-base t c = let next : ℕ = c.loop-child.child + c.word_in.result in let given : Facts c.args.words.now c.args.numbers.now c.args.base c.args.depth = facts _ _ _ _ c.requires in let turning : (k : Tree Site) → SitesT c.args.words.now c.args.numbers.now c.args.base k → StackTurnT c.args.words.now c.args.numbers.now c.args.base c.args.frame k c.loop-child.cursor c.loop-child.child (next) = λ k h. stack_turn _ _ _ _ k _ _ _ (ap (λ (n : ℕ). c.loop-child.child + n) c.word_in.ensures) (c.loop-child.invariant.2 k h) c.loop-child-test.true in let turned : StackTurnT c.args.words.now c.args.numbers.now c.args.base c.args.frame c.requires.tree c.loop-child.cursor c.loop-child.child (next) = turning c.requires.tree c.requires.sites in let f = turned in let g = given in omega arith

pub measure_in_flow_children-plan_at-plan-requires : goal.measure_in_flow_children-plan_at-plan-requires
measure_in_flow_children-plan_at-plan-requires t c = let next : ℕ = c.loop-child.child + c.word_in.result in let turning : (k : Tree Site) → SitesT c.args.words.now c.args.numbers.now c.args.base k → StackTurnT c.args.words.now c.args.numbers.now c.args.base c.args.frame k c.loop-child.cursor c.loop-child.child (next) = λ k h. stack_turn _ _ _ _ k _ _ _ (ap (λ (n : ℕ). c.loop-child.child + n) c.word_in.ensures) (c.loop-child.invariant.2 k h) c.loop-child-test.true in let turned : StackTurnT c.args.words.now c.args.numbers.now c.args.base c.args.frame c.requires.tree c.loop-child.cursor c.loop-child.child (next) = turning c.requires.tree c.requires.sites in let child : IsTree (take (4 * next - 4 * c.loop-child.child) (drop (4 * c.loop-child.child) c.args.words.now)) c.args.numbers.now (c.args.base + c.loop-child.child) (c.args.depth - 1) = let f = turned in let w = c.requires.fit in let u = c.requires.reach in let v = c.requires.sites.words_long in record { tree = f.tree; sites = f.sites; deep = f.shallow c.args.depth c.requires.deep; fit = omega arith; reach = omega arith } in let k = facts _ _ _ _ (child) in (k.words_some, k.reach)

pub measure_in_flow_children-offset_bounds-words-w0-in-In-2 : goal.measure_in_flow_children-offset_bounds-words-w0-in-In-2
measure_in_flow_children-offset_bounds-words-w0-in-In-2 t c = let next : ℕ = c.loop-child.child + c.word_in.result in let given : Facts c.args.words.now c.args.numbers.now c.args.base c.args.depth = facts _ _ _ _ c.requires in let turning : (k : Tree Site) → SitesT c.args.words.now c.args.numbers.now c.args.base k → StackTurnT c.args.words.now c.args.numbers.now c.args.base c.args.frame k c.loop-child.cursor c.loop-child.child (next) = λ k h. stack_turn _ _ _ _ k _ _ _ (ap (λ (n : ℕ). c.loop-child.child + n) c.word_in.ensures) (c.loop-child.invariant.2 k h) c.loop-child-test.true in let turned : StackTurnT c.args.words.now c.args.numbers.now c.args.base c.args.frame c.requires.tree c.loop-child.cursor c.loop-child.child (next) = turning c.requires.tree c.requires.sites in let f = turned in let g = given in omega arith

pub measure_in_flow_children-slice_bounds-measured-count : goal.measure_in_flow_children-slice_bounds-measured-count
measure_in_flow_children-slice_bounds-measured-count t c = let next : ℕ = c.loop-child.child + c.word_in.result in let given : Facts c.args.words.now c.args.numbers.now c.args.base c.args.depth = facts _ _ _ _ c.requires in let turning : (k : Tree Site) → SitesT c.args.words.now c.args.numbers.now c.args.base k → StackTurnT c.args.words.now c.args.numbers.now c.args.base c.args.frame k c.loop-child.cursor c.loop-child.child (next) = λ k h. stack_turn _ _ _ _ k _ _ _ (ap (λ (n : ℕ). c.loop-child.child + n) c.word_in.ensures) (c.loop-child.invariant.2 k h) c.loop-child-test.true in let turned : StackTurnT c.args.words.now c.args.numbers.now c.args.base c.args.frame c.requires.tree c.loop-child.cursor c.loop-child.child (next) = turning c.requires.tree c.requires.sites in let f = turned in let g = given in omega arith

pub measure_in_flow_children-slice_bounds-measured-start : goal.measure_in_flow_children-slice_bounds-measured-start
measure_in_flow_children-slice_bounds-measured-start t c = let next : ℕ = c.loop-child.child + c.word_in.result in let given : Facts c.args.words.now c.args.numbers.now c.args.base c.args.depth = facts _ _ _ _ c.requires in let turning : (k : Tree Site) → SitesT c.args.words.now c.args.numbers.now c.args.base k → StackTurnT c.args.words.now c.args.numbers.now c.args.base c.args.frame k c.loop-child.cursor c.loop-child.child (next) = λ k h. stack_turn _ _ _ _ k _ _ _ (ap (λ (n : ℕ). c.loop-child.child + n) c.word_in.ensures) (c.loop-child.invariant.2 k h) c.loop-child-test.true in let turned : StackTurnT c.args.words.now c.args.numbers.now c.args.base c.args.frame c.requires.tree c.loop-child.cursor c.loop-child.child (next) = turning c.requires.tree c.requires.sites in let f = turned in let g = given in omega arith

pub measure_in_flow_children-slice_bounds-measured-end : goal.measure_in_flow_children-slice_bounds-measured-end
measure_in_flow_children-slice_bounds-measured-end t c = let next : ℕ = c.loop-child.child + c.word_in.result in let given : Facts c.args.words.now c.args.numbers.now c.args.base c.args.depth = facts _ _ _ _ c.requires in let turning : (k : Tree Site) → SitesT c.args.words.now c.args.numbers.now c.args.base k → StackTurnT c.args.words.now c.args.numbers.now c.args.base c.args.frame k c.loop-child.cursor c.loop-child.child (next) = λ k h. stack_turn _ _ _ _ k _ _ _ (ap (λ (n : ℕ). c.loop-child.child + n) c.word_in.ensures) (c.loop-child.invariant.2 k h) c.loop-child-test.true in let turned : StackTurnT c.args.words.now c.args.numbers.now c.args.base c.args.frame c.requires.tree c.loop-child.cursor c.loop-child.child (next) = turning c.requires.tree c.requires.sites in let f = turned in let g = given in omega arith

pub measure_in_flow_children-overflow_add-base-in-In : goal.measure_in_flow_children-overflow_add-base-in-In
measure_in_flow_children-overflow_add-base-in-In t c = let next : ℕ = c.loop-child.child + c.word_in.result in let given : Facts c.args.words.now c.args.numbers.now c.args.base c.args.depth = facts _ _ _ _ c.requires in let turning : (k : Tree Site) → SitesT c.args.words.now c.args.numbers.now c.args.base k → StackTurnT c.args.words.now c.args.numbers.now c.args.base c.args.frame k c.loop-child.cursor c.loop-child.child (next) = λ k h. stack_turn _ _ _ _ k _ _ _ (ap (λ (n : ℕ). c.loop-child.child + n) c.word_in.ensures) (c.loop-child.invariant.2 k h) c.loop-child-test.true in let turned : StackTurnT c.args.words.now c.args.numbers.now c.args.base c.args.frame c.requires.tree c.loop-child.cursor c.loop-child.child (next) = turning c.requires.tree c.requires.sites in let f = turned in let g = given in omega arith

pub measure_in_flow_children-overflow_sub-depth : goal.measure_in_flow_children-overflow_sub-depth
measure_in_flow_children-overflow_sub-depth t c = let next : ℕ = c.loop-child.child + c.word_in.result in let given : Facts c.args.words.now c.args.numbers.now c.args.base c.args.depth = facts _ _ _ _ c.requires in let turning : (k : Tree Site) → SitesT c.args.words.now c.args.numbers.now c.args.base k → StackTurnT c.args.words.now c.args.numbers.now c.args.base c.args.frame k c.loop-child.cursor c.loop-child.child (next) = λ k h. stack_turn _ _ _ _ k _ _ _ (ap (λ (n : ℕ). c.loop-child.child + n) c.word_in.ensures) (c.loop-child.invariant.2 k h) c.loop-child-test.true in let turned : StackTurnT c.args.words.now c.args.numbers.now c.args.base c.args.frame c.requires.tree c.loop-child.cursor c.loop-child.child (next) = turning c.requires.tree c.requires.sites in let f = turned in let g = given in omega arith

pub measure_in_flow_children-measured-answer-requires : goal.measure_in_flow_children-measured-answer-requires
measure_in_flow_children-measured-answer-requires t c = let next : ℕ = c.loop-child.child + c.word_in.result in let given : Facts c.args.words.now c.args.numbers.now c.args.base c.args.depth = facts _ _ _ _ c.requires in let turning : (k : Tree Site) → SitesT c.args.words.now c.args.numbers.now c.args.base k → StackTurnT c.args.words.now c.args.numbers.now c.args.base c.args.frame k c.loop-child.cursor c.loop-child.child (next) = λ k h. stack_turn _ _ _ _ k _ _ _ (ap (λ (n : ℕ). c.loop-child.child + n) c.word_in.ensures) (c.loop-child.invariant.2 k h) c.loop-child-test.true in let turned : StackTurnT c.args.words.now c.args.numbers.now c.args.base c.args.frame c.requires.tree c.loop-child.cursor c.loop-child.child (next) = turning c.requires.tree c.requires.sites in let child : IsTree (take (4 * next - 4 * c.loop-child.child) (drop (4 * c.loop-child.child) c.args.words.now)) c.args.numbers.now (c.args.base + c.loop-child.child) (c.args.depth - 1) = let f = turned in let w = c.requires.fit in let u = c.requires.reach in let v = c.requires.sites.words_long in record { tree = f.tree; sites = f.sites; deep = f.shallow c.args.depth c.requires.deep; fit = omega arith; reach = omega arith } in let g = given in (omega (arith, c.decreases, g.deep), child)

pub measure_in_flow_children-stepped_past-cursor-requires : goal.measure_in_flow_children-stepped_past-cursor-requires
measure_in_flow_children-stepped_past-cursor-requires t c = let next : ℕ = c.loop-child.child + c.word_in.result in let given : Facts c.args.words.now c.args.numbers.now c.args.base c.args.depth = facts _ _ _ _ c.requires in let turning : (k : Tree Site) → SitesT c.args.words.now c.args.numbers.now c.args.base k → StackTurnT c.args.words.now c.args.numbers.now c.args.base c.args.frame k c.loop-child.cursor c.loop-child.child (next) = λ k h. stack_turn _ _ _ _ k _ _ _ (ap (λ (n : ℕ). c.loop-child.child + n) c.word_in.ensures) (c.loop-child.invariant.2 k h) c.loop-child-test.true in let turned : StackTurnT c.args.words.now c.args.numbers.now c.args.base c.args.frame c.requires.tree c.loop-child.cursor c.loop-child.child (next) = turning c.requires.tree c.requires.sites in let counts : Counts c.loop-child.cursor = let f = turned in let g = given in let i = c.loop-child.invariant in record { shown = omega (arith, i.1.1); count = omega (arith, i.1.0) } in counts

pub measure_in_flow_children-loop-child-smaller-in-Gone : goal.measure_in_flow_children-loop-child-smaller-in-Gone
measure_in_flow_children-loop-child-smaller-in-Gone t c = let next : ℕ = c.loop-child.child + c.word_in.result in let turning : (k : Tree Site) → SitesT c.args.words.now c.args.numbers.now c.args.base k → StackTurnT c.args.words.now c.args.numbers.now c.args.base c.args.frame k c.loop-child.cursor c.loop-child.child (next) = λ k h. stack_turn _ _ _ _ k _ _ _ (ap (λ (n : ℕ). c.loop-child.child + n) c.word_in.ensures) (c.loop-child.invariant.2 k h) c.loop-child-test.true in let turned : StackTurnT c.args.words.now c.args.numbers.now c.args.base c.args.frame c.requires.tree c.loop-child.cursor c.loop-child.child (next) = turning c.requires.tree c.requires.sites in let f = turned in shorter _ _ _ f.some f.words_in_lem

pub measure_in_flow_children-loop-child-preserved-in-Gone : goal.measure_in_flow_children-loop-child-preserved-in-Gone
measure_in_flow_children-loop-child-preserved-in-Gone t c = let next : ℕ = c.loop-child.child + c.word_in.result in let turning : (k : Tree Site) → SitesT c.args.words.now c.args.numbers.now c.args.base k → StackTurnT c.args.words.now c.args.numbers.now c.args.base c.args.frame k c.loop-child.cursor c.loop-child.child (next) = λ k h. stack_turn _ _ _ _ k _ _ _ (ap (λ (n : ℕ). c.loop-child.child + n) c.word_in.ensures) (c.loop-child.invariant.2 k h) c.loop-child-test.true in let turned : StackTurnT c.args.words.now c.args.numbers.now c.args.base c.args.frame c.requires.tree c.loop-child.cursor c.loop-child.child (next) = turning c.requires.tree c.requires.sites in let passed_on : (z : Cursor) → Passed (take (4 * next - 4 * c.loop-child.child) (drop (4 * c.loop-child.child) c.args.words.now)) c.args.numbers.now (c.args.base + c.loop-child.child) c.args.frame c.loop-child.cursor z → (4 * next ≤ length c.args.words.now) × ((z.count ≤ next) × (z.shown.0 ≤ next)) × ((k : Tree Site) → SitesT c.args.words.now c.args.numbers.now c.args.base k → StackRestT c.args.words.now c.args.numbers.now c.args.base c.args.frame k z (next)) = λ z p. let f = turned in let i = c.loop-child.invariant.1 in let k = past_counts c.args.frame c.loop-child.cursor z f.tree (p f.tree f.sites) in (f.words_in_lem, counted_to c.loop-child.child (next) c.loop-child.cursor.count c.loop-child.cursor.shown.0 z.count z.shown.0 f.some i.0 i.1 k.0 k.1, λ u h. let g = turning u h in g.next z (p g.tree g.sites)) in let base = c.args.base + c.loop-child.child in
    passed_on c.past_hidden-cursor.result (gone-passed _ c.args.numbers.now base _ refl c.args.frame c.loop-child.cursor _ (c.flow-flow.ensures ∙ flow_at_lem _ c.args.numbers.now base) _ c.in-Gone.is c.past_hidden-cursor.ensures)

pub measure_in_flow_children-loop-child-smaller-in-Out : goal.measure_in_flow_children-loop-child-smaller-in-Out
measure_in_flow_children-loop-child-smaller-in-Out t c = let next : ℕ = c.loop-child.child + c.word_in.result in let turning : (k : Tree Site) → SitesT c.args.words.now c.args.numbers.now c.args.base k → StackTurnT c.args.words.now c.args.numbers.now c.args.base c.args.frame k c.loop-child.cursor c.loop-child.child (next) = λ k h. stack_turn _ _ _ _ k _ _ _ (ap (λ (n : ℕ). c.loop-child.child + n) c.word_in.ensures) (c.loop-child.invariant.2 k h) c.loop-child-test.true in let turned : StackTurnT c.args.words.now c.args.numbers.now c.args.base c.args.frame c.requires.tree c.loop-child.cursor c.loop-child.child (next) = turning c.requires.tree c.requires.sites in let f = turned in shorter _ _ _ f.some f.words_in_lem

pub measure_in_flow_children-loop-child-preserved-in-Out : goal.measure_in_flow_children-loop-child-preserved-in-Out
measure_in_flow_children-loop-child-preserved-in-Out t c = let next : ℕ = c.loop-child.child + c.word_in.result in let turning : (k : Tree Site) → SitesT c.args.words.now c.args.numbers.now c.args.base k → StackTurnT c.args.words.now c.args.numbers.now c.args.base c.args.frame k c.loop-child.cursor c.loop-child.child (next) = λ k h. stack_turn _ _ _ _ k _ _ _ (ap (λ (n : ℕ). c.loop-child.child + n) c.word_in.ensures) (c.loop-child.invariant.2 k h) c.loop-child-test.true in let turned : StackTurnT c.args.words.now c.args.numbers.now c.args.base c.args.frame c.requires.tree c.loop-child.cursor c.loop-child.child (next) = turning c.requires.tree c.requires.sites in let passed_on : (z : Cursor) → Passed (take (4 * next - 4 * c.loop-child.child) (drop (4 * c.loop-child.child) c.args.words.now)) c.args.numbers.now (c.args.base + c.loop-child.child) c.args.frame c.loop-child.cursor z → (4 * next ≤ length c.args.words.now) × ((z.count ≤ next) × (z.shown.0 ≤ next)) × ((k : Tree Site) → SitesT c.args.words.now c.args.numbers.now c.args.base k → StackRestT c.args.words.now c.args.numbers.now c.args.base c.args.frame k z (next)) = λ z p. let f = turned in let i = c.loop-child.invariant.1 in let k = past_counts c.args.frame c.loop-child.cursor z f.tree (p f.tree f.sites) in (f.words_in_lem, counted_to c.loop-child.child (next) c.loop-child.cursor.count c.loop-child.cursor.shown.0 z.count z.shown.0 f.some i.0 i.1 k.0 k.1, λ u h. let g = turning u h in g.next z (p g.tree g.sites)) in let base = c.args.base + c.loop-child.child in
    passed_on c.past_aside-cursor.result (out-passed _ c.args.numbers.now base _ refl c.args.frame c.loop-child.cursor _ (c.flow-flow.ensures ∙ flow_at_lem _ c.args.numbers.now base) _ c.in-Out.is c.past_aside-cursor.ensures)

pub measure_in_flow_children-loop-child-smaller : goal.measure_in_flow_children-loop-child-smaller
measure_in_flow_children-loop-child-smaller t c = let next : ℕ = c.loop-child.child + c.word_in.result in let turning : (k : Tree Site) → SitesT c.args.words.now c.args.numbers.now c.args.base k → StackTurnT c.args.words.now c.args.numbers.now c.args.base c.args.frame k c.loop-child.cursor c.loop-child.child (next) = λ k h. stack_turn _ _ _ _ k _ _ _ (ap (λ (n : ℕ). c.loop-child.child + n) c.word_in.ensures) (c.loop-child.invariant.2 k h) c.loop-child-test.true in let turned : StackTurnT c.args.words.now c.args.numbers.now c.args.base c.args.frame c.requires.tree c.loop-child.cursor c.loop-child.child (next) = turning c.requires.tree c.requires.sites in let f = turned in shorter _ _ _ f.some f.words_in_lem

pub measure_in_flow_children-loop-child-preserved : goal.measure_in_flow_children-loop-child-preserved
measure_in_flow_children-loop-child-preserved t c = let next : ℕ = c.loop-child.child + c.word_in.result in let turning : (k : Tree Site) → SitesT c.args.words.now c.args.numbers.now c.args.base k → StackTurnT c.args.words.now c.args.numbers.now c.args.base c.args.frame k c.loop-child.cursor c.loop-child.child (next) = λ k h. stack_turn _ _ _ _ k _ _ _ (ap (λ (n : ℕ). c.loop-child.child + n) c.word_in.ensures) (c.loop-child.invariant.2 k h) c.loop-child-test.true in let turned : StackTurnT c.args.words.now c.args.numbers.now c.args.base c.args.frame c.requires.tree c.loop-child.cursor c.loop-child.child (next) = turning c.requires.tree c.requires.sites in let passed_on : (z : Cursor) → Passed (take (4 * next - 4 * c.loop-child.child) (drop (4 * c.loop-child.child) c.args.words.now)) c.args.numbers.now (c.args.base + c.loop-child.child) c.args.frame c.loop-child.cursor z → (4 * next ≤ length c.args.words.now) × ((z.count ≤ next) × (z.shown.0 ≤ next)) × ((k : Tree Site) → SitesT c.args.words.now c.args.numbers.now c.args.base k → StackRestT c.args.words.now c.args.numbers.now c.args.base c.args.frame k z (next)) = λ z p. let f = turned in let i = c.loop-child.invariant.1 in let k = past_counts c.args.frame c.loop-child.cursor z f.tree (p f.tree f.sites) in (f.words_in_lem, counted_to c.loop-child.child (next) c.loop-child.cursor.count c.loop-child.cursor.shown.0 z.count z.shown.0 f.some i.0 i.1 k.0 k.1, λ u h. let g = turning u h in g.next z (p g.tree g.sites)) in let base = c.args.base + c.loop-child.child in
    passed_on c.stepped_past-cursor.result (in-passed _ c.args.numbers.now base _ refl c.args.frame c.loop-child.cursor _ (c.flow-flow.ensures ∙ flow_at_lem _ c.args.numbers.now base) _ _ _ _ c.in-In.is c.plan_at-plan.ensures.input c.measured-answer.ensures c.plan_at-plan.ensures.footing c.stepped_past-cursor.ensures)

pub measure_in_flow_children-returns : goal.measure_in_flow_children-returns
measure_in_flow_children-returns t c = λ l ks h. c.stack_output.ensures ∙ ap (stack_leaves c.args.frame) (stack_end c.args.words.now c.args.numbers.now c.args.base c.args.frame l ks _ _ (c.loop-child.invariant.2 (node l ks) h) c.loop-child-test.false)
