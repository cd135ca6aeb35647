use mathlib.Core.Path.{◌≡◌, sym, ap, ◌∙◌}
use Prim.Native.Nat.{◌+◌, ◌-◌}
use native.Mathlib.Omega.{arith}
use Rattle.steps.specs.Noes.{holds}
use Rattle.coarse.specs.Above.{stacked}
use lib.ListN.{get_or}
use Rattle.coarse.proofs.Above.{trim_turn, trim_stop, trim_end, runs_past, runs-out}
use Rattle.coarse.proofs.still_above.Goals as goal

pub returns-then-i-j : goal.returns-then-i-j
returns-then-i-j c = let a = c.args in
    let l = c.loop-k in
    let t = c.loop-k-test.true in
    let y = runs_past a.words.now a.i (get_or a.up.now (l.k - 1) 0) _ _ c.wide-j.ensures.0 (c.wide.ensures.0 ∙ c.word.ensures) c.if-i-j.true in
    let next : l.k - 1 + 1 ≡ l.k = omega arith in
    (omega arith, ap (stacked a.up.now) next ∙ sym (l.invariant.1 ∙ trim_stop (holds a.words.now a.i) a.up.now l.k (omega arith) y))

pub loop-k-preserved : goal.loop-k-preserved
loop-k-preserved c = let a = c.args in
    let l = c.loop-k in
    let t = c.loop-k-test.true in
    let y = runs-out a.words.now a.i (get_or a.up.now (l.k - 1) 0) _ _ c.wide-j.ensures.0 (c.wide.ensures.0 ∙ c.word.ensures) c.if-i-j.false in
    (omega (arith, l.invariant.0), l.invariant.1 ∙ trim_turn (holds a.words.now a.i) a.up.now l.k (omega arith) y)

pub returns : goal.returns
returns c = let a = c.args in
    let l = c.loop-k in
    let none : 0 ≡ l.k = omega arith in
    (omega arith, ap (stacked a.up.now) none ∙ sym (l.invariant.1 ∙ trim_end (holds a.words.now a.i) a.up.now l.k (omega arith)))
