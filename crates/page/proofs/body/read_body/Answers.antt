use Rattle.std.proofs.Common.{◌≡◌, refl, ◌∙◌, ap, ◌+◌, length, arith, eq-eqb, ne_eqb, None, Some}
use Rattle.std.proofs.lemmas.Result.{err_from_is_err_and}
use Rattle.page.specs.declared.PageError.TheVariants.{BadLine}
use Rattle.page.specs.Body.{tables}
use Rattle.page.proofs.BodyTurn.{goes_on, stops-here, at_end}
use Rattle.page.proofs.body.read_body.Goals as goal
use Rattle.page.proofs.body.read_body.Goals.{else-whole-via-then-whole+else-count-n, else-whole-via-else-whole}

pub returns-in_err-count : goal.returns-in_err-count
returns-in_err-count c = let a = c.args in
    let l = c.loop-at in
    let u = tables l.count l.words l.numbers in
    let b : c.body_line.result ≡ None = grind arith in
    let z = stops-here a.whole a.n l.line u a.text.now l.at c.piece_end-e.result c.loop-at-test.true c.piece_end-e.ensures (a.n + 1) c.body_line.new.words c.body_line.new.numbers (rw b at c.body_line.ensures) (omega arith) in
    let p = err_from_is_err_and c.from_residual.result c.from_residual.ensures.1 in
    let k : c.in_err-count.field-0.0 ≡ BadLine l.line = grind arith in
    rw (p.1, p.2, k, l.invariant.6 ∙ z.0) (omega arith, (omega arith, refl, ap length z.1 ∙ l.invariant.4, ap length z.2 ∙ l.invariant.5))

pub loop-at-preserved : goal.loop-at-preserved
loop-at-preserved c = let a = c.args in
    let l = c.loop-at in
    let u = tables l.count l.words l.numbers in
    let p = c.piece_end-e.ensures in
    let b : c.body_line.result ≡ Some c.in_ok-count.count = grind arith in
    let t = rw b at c.body_line.ensures in
    let z = goes_on a.whole a.n l.line u a.text.now l.at c.piece_end-e.result c.loop-at-test.true p c.in_ok-count.count c.body_line.new.words c.body_line.new.numbers t.1 t.0 in
    let m = l.invariant.3 in (
      omega (arith, p.within),
      omega (arith, p.after, l.invariant.1),
      omega arith,
      record { few = m.few; so_far = t.0; words_room = omega (arith, m.words_room, z.1); numbers_room = omega (arith, m.numbers_room, z.2) },
      z.1 ∙ l.invariant.4,
      z.2 ∙ l.invariant.5,
      l.invariant.6 ∙ z.0,
    )

pub returns-then-count-n : goal.returns-then-count-n
returns-then-count-n c = let a = c.args in
    let l = c.loop-at in
    let z = at_end a.whole a.n l.line (tables l.count l.words l.numbers) a.text.now l.at c.loop-at-test.false in
    rw (l.invariant.6 ∙ z, c.if-whole.true, eq-eqb _ _ c.if-count-n.true) (refl, refl, refl)

pub returns : goal.returns
returns c = let a = c.args in
    let l = c.loop-at in
    let z = at_end a.whole a.n l.line (tables l.count l.words l.numbers) a.text.now l.at c.loop-at-test.false in
    elim c.else-whole.branch [
      | else-whole-via-then-whole+else-count-n w ↦ (omega arith, rw (l.invariant.6 ∙ z, w.if-whole.true, ne_eqb _ _ w.if-count-n.false) (omega arith, refl, l.invariant.4, l.invariant.5))
      | else-whole-via-else-whole w ↦ (omega arith, rw (l.invariant.6 ∙ z, w.if-whole.false) (omega arith, refl, l.invariant.4, l.invariant.5))
    ]
