use Rattle.std.proofs.Common.{◌≡◌, sym, ◌∙◌, ◌+◌, ◌*◌, drop, arith, eqb-true}
use Rattle.text.specs.Values.{value_from}
use Rattle.text.proofs.DigitTurn.{digit-good, digit-bad, value-step, grows, empty_bad, digits-bad, over_limit_lem, all_good, end_digits, end_value}
use Rattle.text.proofs.digits.Goals as goal

pub returns-then-is_empty : goal.returns-then-is_empty
returns-then-is_empty c = empty_bad c.args.base c.args.limit c.args.s.now (eqb-true _ _ (sym c.is_empty.ensures ∙ c.if-is_empty.true))

pub returns-then-from-d : goal.returns-then-from-d
returns-then-from-d c = let l = c.loop-b in
    let a = c.args in
    digits-bad a.base a.limit a.s.now l.invariant.0 (l.invariant.2 ∙ digit-bad a.base a.s.now l.b-index (omega arith) (rw (← c.digit-d.ensures, ← c.from.ensures) c.if-from-d.true))

pub returns-then-from-v : goal.returns-then-from-v
returns-then-from-v c = let l = c.loop-b in
    let a = c.args in
    let d = c.digit-d.ensures in
    let e : value_from a.base 0 a.s.now ≡ value_from a.base (l.v * a.base + c.digit-d.result) (drop (l.b-index + 1) a.s.now) =
    l.invariant.3 ∙ rw d (value-step a.base a.s.now l.b-index (omega arith) l.v) in
    over_limit_lem a.base a.limit a.s.now l.invariant.0
    (omega (arith, rw c.from-in-loop-b.ensures at c.if-from-v.true, grows a.base (l.v * a.base + c.digit-d.result) (drop (l.b-index + 1) a.s.now) (omega arith)))

pub loop-b-preserved : goal.loop-b-preserved
loop-b-preserved c = let l = c.loop-b in
    let a = c.args in
    let d = c.digit-d.ensures in (
      l.invariant.0,
      omega arith,
      l.invariant.2 ∙ digit-good a.base a.s.now l.b-index (omega arith) (rw (← d) (omega arith)),
      rw c.from-in-loop-b.ensures (l.invariant.3 ∙ rw d (value-step a.base a.s.now l.b-index (omega arith) l.v)),
    )

pub returns : goal.returns
returns c = let l = c.loop-b in
    let a = c.args in
    let e = c.loop-b-test.false in
    all_good a.base a.limit a.s.now l.invariant.0 l.v (l.invariant.2 ∙ end_digits a.base a.s.now l.b-index e) (l.invariant.3 ∙ end_value a.base l.v a.s.now l.b-index e) l.invariant.1
