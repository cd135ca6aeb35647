use borrow.Author.Rules.{rules}
use native.Mathlib.Omega.{arith}
use mathlib.Core.Path.{◌≡◌, refl, sym, ◌∙◌}
use mathlib.Core.Bool.{Bool, true, false}
use Prim.Native.Nat.{ℕ, ◌≤◌, ◌-◌}
use Rattle.steps.specs.Scan.{scan}
use Rattle.scans.specs.Scans.{pass, here, over}
use Rattle.numbers.specs.Fields.{bad_field_at}
use Rattle.numbers.proofs.some_bad_field.Invariants.{yes}
use Rattle.numbers.proofs.some_bad_field.Goals as goal

pub loop-f-init : goal.loop-f-init
loop-f-init c = let p = c.requires in
    (omega arith, omega arith, refl)

pub number_in-requires : goal.number_in-requires
number_in-requires c = let p = c.requires in
    (p.0, omega arith)

pub returns-then-bad_field : goal.returns-then-bad_field
returns-then-bad_field c = let a = c.args in
    let l = c.loop-f in
    sym (l.invariant.2 ∙ here (bad_field_at a.u a.v a.numbers.now a.i) yes false a.to l.f (omega arith) (rw (← c.unit.ensures, ← c.number_in.ensures) (sym c.bad_field.ensures ∙ c.if-bad_field.true)))

pub loop-f-preserved : goal.loop-f-preserved
loop-f-preserved c = let a = c.args in
    let l = c.loop-f in (
      omega arith,
      omega arith,
      l.invariant.2 ∙ pass (bad_field_at a.u a.v a.numbers.now a.i) yes false a.to l.f (omega arith) (rw (← c.unit.ensures, ← c.number_in.ensures) (sym c.bad_field.ensures ∙ c.if-bad_field.false)),
    )

pub returns : goal.returns
returns c = let a = c.args in
    let l = c.loop-f in
    sym (l.invariant.2 ∙ over (bad_field_at a.u a.v a.numbers.now a.i) yes false a.to l.f (omega arith))
