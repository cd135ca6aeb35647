use mathlib.Core.Path.{ap, ◌∙◌}
use mathlib.Core.List.{List, []}
use Prim.Native.Nat.{ℕ, ◌+◌, ◌-◌, ◌<◌, ◌≤◌}
use native.Mathlib.Omega.{arith}
use lib.Ieee.{Float}
use borrow.Author.Rules.{rules}
use Rattle.steps.specs.Page.{nodes_in}
use Rattle.style.specs.Flow.{flow_at}
use Rattle.tables.proofs.NeededWalk.{Left, begin, turn, end}
use Rattle.tables.proofs.needed.count_needed.Goals as goal

less : {i count p k : ℕ} → 0 < p → k ≤ 1 → count < i → count + k < i + p
less a b c = omega arith

pub loop-i-init : goal.loop-i-init
loop-i-init c = let g = c.requires in
    (omega arith, g.some, omega arith, λ xs. begin c.args.words.now xs g)

pub overflow_add-count : goal.overflow_add-count
overflow_add-count c = let g = c.requires in
    let u = turn c.args.words.now [] c.loop-i.i c.loop-i.count _ c.word_in-size.ensures c.loop-i-test.true (c.loop-i.invariant.3 []) _ (c.flow_at-flow.ensures ∙ ap flow_at c.word_in.ensures) in
    omega (arith, g.few, u.most, c.counted-count.ensures)

pub overflow_add-i : goal.overflow_add-i
overflow_add-i c = let g = c.requires in
    let u = turn c.args.words.now [] c.loop-i.i c.loop-i.count _ c.word_in-size.ensures c.loop-i-test.true (c.loop-i.invariant.3 []) _ (c.flow_at-flow.ensures ∙ ap flow_at c.word_in.ensures) in
    omega (arith, g.few, u.on, u.within, c.passed-i.ensures)

pub loop-i-smaller : goal.loop-i-smaller
loop-i-smaller c = let g = c.requires in
    let u = turn c.args.words.now [] c.loop-i.i c.loop-i.count _ c.word_in-size.ensures c.loop-i-test.true (c.loop-i.invariant.3 []) _ (c.flow_at-flow.ensures ∙ ap flow_at c.word_in.ensures) in
    omega (arith, g.few, u.on, u.within, c.passed-i.ensures)

pub loop-i-preserved : goal.loop-i-preserved
loop-i-preserved c = let u = turn c.args.words.now [] c.loop-i.i c.loop-i.count _ c.word_in-size.ensures c.loop-i-test.true (c.loop-i.invariant.3 []) _ (c.flow_at-flow.ensures ∙ ap flow_at c.word_in.ensures) in (
  omega (arith, u.on),
  rw c.passed-i.ensures u.within,
  rw (c.passed-i.ensures, c.counted-count.ensures) (less u.on u.most c.loop-i.invariant.2),
  λ xs. rw (c.passed-i.ensures, c.counted-count.ensures) (turn c.args.words.now xs c.loop-i.i c.loop-i.count _ c.word_in-size.ensures c.loop-i-test.true (c.loop-i.invariant.3 xs) _ (c.flow_at-flow.ensures ∙ ap flow_at c.word_in.ensures)).next,
)

pub returns : goal.returns
returns c = λ xs. end c.args.words.now xs c.loop-i.i c.loop-i.count c.loop-i-test.false (c.loop-i.invariant.3 xs)
