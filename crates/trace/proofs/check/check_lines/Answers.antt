use Rattle.std.proofs.Common.{◌≡◌, sym, ◌∙◌, ap, ℕ, ◌≤◌, arith, eq-eqb, ne_eqb}
use Rattle.page.specs.declared.PageError.TheVariants.{BadLine}
use Rattle.page.specs.declared.PageError.{PageError}
use Rattle.trace.proofs.Lines.{turn-full, turn-bad, turn_on, at_end}
use Rattle.trace.proofs.check.check_lines.Goals as goal
use Rattle.trace.proofs.check.check_lines.Goals.{then-left-eq0-via-then-left-eq0, then-left-eq0-via-else-left-eq0+then-not-is_event, else-whole-via-then-whole+else-left-eq0-2, else-whole-via-else-whole}

-- the line that is told is the bad one
told : (bad k first : ℕ) → bad ≡ k → first ≤ k → (◌≡◌ {A = PageError} (BadLine k) (BadLine bad)) × (first ≤ bad)
told bad k first e l = (ap (λ (n : ℕ). BadLine n) (sym e), omega arith)

pub returns-then-left-eq0 : goal.returns-then-left-eq0
returns-then-left-eq0 c = let a = c.args in
    let l = c.loop-at in
    elim c.then-left-eq0.branch [
      | then-left-eq0-via-then-left-eq0 w ↦ told _ _ _ (l.invariant.2 ∙ turn-full a.whole a.n l.left l.line a.text.now l.at c.piece_end-e.result c.loop-at-test.true c.piece_end-e.ensures w.if-left-eq0.true) l.invariant.1
      | then-left-eq0-via-else-left-eq0+then-not-is_event w ↦ told _ _ _ (l.invariant.2 ∙ turn-bad a.whole a.n l.left l.line a.text.now l.at c.piece_end-e.result c.loop-at-test.true c.piece_end-e.ensures (sym w.is_event.ensures ∙ w.if-not-is_event.true)) l.invariant.1
    ]

pub loop-at-preserved : goal.loop-at-preserved
loop-at-preserved c = let a = c.args in
    let l = c.loop-at in
    let p = c.piece_end-e.ensures in (
      omega (arith, p.after, l.invariant.0),
      omega (arith, l.invariant.1),
      l.invariant.2 ∙ turn_on a.whole a.n l.left l.line a.text.now l.at c.piece_end-e.result c.loop-at-test.true p (omega arith) (sym c.is_event.ensures ∙ c.if-not-is_event.false),
    )

pub returns-then-left-eq0-2 : goal.returns-then-left-eq0-2
returns-then-left-eq0-2 c = let a = c.args in
    let l = c.loop-at in
    l.invariant.2 ∙ at_end a.whole a.n l.left l.line a.text.now l.at c.loop-at-test.false ∙ rw (c.if-whole.true, eq-eqb _ 0 c.if-left-eq0-2.true)

pub returns : goal.returns
returns c = let a = c.args in
    let l = c.loop-at in
    let z = at_end a.whole a.n l.left l.line a.text.now l.at c.loop-at-test.false in
    elim c.else-whole.branch [
      | else-whole-via-then-whole+else-left-eq0-2 w ↦ told _ _ _ (l.invariant.2 ∙ z ∙ rw (w.if-whole.true, ne_eqb _ 0 w.if-left-eq0-2.false)) l.invariant.1
      | else-whole-via-else-whole w ↦ told _ _ _ (l.invariant.2 ∙ z ∙ rw w.if-whole.false) l.invariant.1
    ]
