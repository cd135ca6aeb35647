use borrow.Author.Rules.{rules}
use native.Mathlib.Omega.{arith}
use mathlib.Core.Path.{sym, ◌∙◌, ap}
use Prim.Native.Nat.{ℕ}
use Rattle.trace.proofs.Beginning.{here, further, nowhere}
use Rattle.trace.proofs.events_start.Goals as goal

pub loop-i-init : goal.loop-i-init
loop-i-init c = (omega arith, omega arith, omega arith, omega arith)

pub returns-then-starts_events : goal.returns-then-starts_events
returns-then-starts_events c = let l = c.loop-i in
    let s = c.args.text.now in
    let z = here l.fresh s l.i c.loop-i-test.true (sym c.starts_events.ensures ∙ c.if-starts_events.true) in
    record { within = l.invariant.0; place = sym (l.invariant.2 ∙ omega (arith, ap (λ (p : ℕ × ℕ). p.0) z)); number = sym (l.invariant.3 ∙ omega (arith, ap (λ (p : ℕ × ℕ). p.1) z)); low = omega arith }

pub loop-i-preserved : goal.loop-i-preserved
loop-i-preserved c = let l = c.loop-i in
    let s = c.args.text.now in
    let z = further l.fresh s l.i c.loop-i-test.true (sym c.starts_events.ensures ∙ c.if-starts_events.false) in
    let u = ap (λ (p : ℕ × ℕ). p.0) z in
    let v = ap (λ (p : ℕ × ℕ). p.1) z in
    (omega arith, omega arith, omega (arith, u, l.invariant.2), omega (arith, v, l.invariant.3, c.one-line.ensures.0))

pub returns : goal.returns
returns c = let l = c.loop-i in
    let s = c.args.text.now in
    let z = nowhere l.fresh s l.i (search rules) in
    record { within = l.invariant.0; place = sym (l.invariant.2 ∙ omega (arith, ap (λ (p : ℕ × ℕ). p.0) z)); number = sym (l.invariant.3 ∙ omega (arith, ap (λ (p : ℕ × ℕ). p.1) z)); low = omega arith }
