use mathlib.Core.Path.{sym, ◌∙◌}
use Prim.Native.Nat.{◌≤◌, ◌-◌, ℕ, ◌<◌}
use native.Mathlib.Omega.{arith}
use borrow.Author.Rules.{rules}
use Rattle.steps.specs.Page.{nodes_in}
use Rattle.shape.proofs.Fronts.{fine}
use Rattle.shape.proofs.CheckTurn.{Reached, reached_none, reached_all, bad-here, run-nodes, found, next}
use Rattle.shape.proofs.+below.Goals as goal

pub loop-a-init : goal.loop-a-init
loop-a-init t c = (omega arith, reached_none _ _ _)

pub overflow_add-result : goal.overflow_add-result
overflow_add-result t c = omega (arith, c.requires)

pub overflow_cast-result : goal.overflow_cast-result
overflow_cast-result t c = omega (arith, c.requires)

pub returns-then-node_fault : goal.returns-then-node_fault
returns-then-node_fault t c = bad-here c.args.words.now c.args.base c.args.depth c.loop-a.a _ _ c.word_in-size.ensures c.word_in-style.ensures c.loop-a-test.true c.loop-a.invariant.1 (sym c.node_fault.ensures ∙ c.if-node_fault.true)

pub overflow_add-b : goal.overflow_add-b
overflow_add-b t c = let g = fine _ _ _ _ (sym c.node_fault.ensures ∙ c.if-node_fault.false) in omega arith

pub overflow_add-e : goal.overflow_add-e
overflow_add-e t c = let g = fine _ _ _ _ (sym c.node_fault.ensures ∙ c.if-node_fault.false) in omega arith

pub overflow_mul-b : goal.overflow_mul-b
overflow_mul-b t c = let g = fine _ _ _ _ (sym c.node_fault.ensures ∙ c.if-node_fault.false) in omega arith

pub overflow_mul-e : goal.overflow_mul-e
overflow_mul-e t c = let g = fine _ _ _ _ (sym c.node_fault.ensures ∙ c.if-node_fault.false) in omega arith

pub offset_bounds-words-b : goal.offset_bounds-words-b
offset_bounds-words-b t c = let g = fine _ _ _ _ (sym c.node_fault.ensures ∙ c.if-node_fault.false) in omega arith

pub slice_bounds-below-count : goal.slice_bounds-below-count
slice_bounds-below-count t c = let g = fine _ _ _ _ (sym c.node_fault.ensures ∙ c.if-node_fault.false) in omega arith

pub slice_bounds-below-start : goal.slice_bounds-below-start
slice_bounds-below-start t c = let g = fine _ _ _ _ (sym c.node_fault.ensures ∙ c.if-node_fault.false) in omega arith

pub slice_bounds-below-end : goal.slice_bounds-below-end
slice_bounds-below-end t c = let g = fine _ _ _ _ (sym c.node_fault.ensures ∙ c.if-node_fault.false) in omega arith

pub overflow_add-base : goal.overflow_add-base
overflow_add-base t c = let g = fine _ _ _ _ (sym c.node_fault.ensures ∙ c.if-node_fault.false) in omega (arith, c.requires)

pub overflow_sub-depth : goal.overflow_sub-depth
overflow_sub-depth t c = let g = fine _ _ _ _ (sym c.node_fault.ensures ∙ c.if-node_fault.false) in omega arith

pub below-found-requires : goal.below-found-requires
below-found-requires t c = let g = fine _ _ _ _ (sym c.node_fault.ensures ∙ c.if-node_fault.false) in let k = run-nodes c.args.words.now c.args.base c.args.depth c.loop-a.a _ _ c.word_in-size.ensures c.word_in-style.ensures c.loop-a-test.true c.loop-a.invariant.1 (sym c.node_fault.ensures ∙ c.if-node_fault.false) in (omega (arith, c.decreases), omega (arith, c.requires))

pub returns-in-Some : goal.returns-in-Some
returns-in-Some t c = found c.args.words.now c.args.base c.args.depth c.loop-a.a _ _ c.word_in-size.ensures c.word_in-style.ensures c.loop-a-test.true c.loop-a.invariant.1 (sym c.node_fault.ensures ∙ c.if-node_fault.false) _ c.below-found.ensures _ c.in-Some.is

pub loop-a-smaller : goal.loop-a-smaller
loop-a-smaller t c = let g = fine _ _ _ _ (sym c.node_fault.ensures ∙ c.if-node_fault.false) in omega arith

pub loop-a-preserved : goal.loop-a-preserved
loop-a-preserved t c = let g = fine _ _ _ _ (sym c.node_fault.ensures ∙ c.if-node_fault.false) in (omega arith, next c.args.words.now c.args.base c.args.depth c.loop-a.a _ _ c.word_in-size.ensures c.word_in-style.ensures c.loop-a-test.true c.loop-a.invariant.1 (sym c.node_fault.ensures ∙ c.if-node_fault.false) _ c.below-found.ensures c.in_default.is)

pub returns : goal.returns
returns t c = reached_all c.args.words.now _ _ _ c.loop-a-test.false c.loop-a.invariant.1
