use mathlib.Core.Path.{sym, ap, ◌∙◌}
use mathlib.Core.Bool.{true, false}
use Prim.Native.Nat.{ℕ, ◌+◌, ◌*◌}
use native.Mathlib.Omega.{arith}
use lib.ListN.{get_or}
use lib.Ieee.{nan}
use Rattle.geometry.specs.Geometry.{zero_f}
use Rattle.limits.specs.Limits.{too_large}
use Rattle.lent.proofs.Reading.{get_d_any}
use Rattle.steps.specs.Noes.{bad_row}
use Rattle.tables.proofs.ScanLaws.{pass, here, over, start}
use Rattle.layout.proofs.row_large.Goals as goal

pub loop-k-init : goal.loop-k-init
loop-k-init c = (omega arith, start (λ (j : ℕ). too_large (get_or c.args.rows.now (16 * c.args.i + j) zero_f)) (λ _. true) false 16)

pub overflow_mul-i : goal.overflow_mul-i
overflow_mul-i c = let w = c.requires in omega (arith, c.loop-k.invariant.0)

pub overflow_add-i : goal.overflow_add-i
overflow_add-i c = let w = c.requires in omega (arith, c.loop-k.invariant.0)

pub offset_bounds-rows-i : goal.offset_bounds-rows-i
offset_bounds-rows-i c = let w = c.requires in omega (arith, c.loop-k.invariant.0)

pub bounds-rows-i : goal.bounds-rows-i
bounds-rows-i c = let w = c.requires in omega (arith, c.loop-k.invariant.0)

pub returns-then-too_large : goal.returns-then-too_large
unfolding bad_row
returns-then-too_large c = sym (c.loop-k.invariant.1 ∙ here (λ (j : ℕ). too_large (get_or c.args.rows.now (16 * c.args.i + j) zero_f)) (λ _. true) false 16 c.loop-k.k c.loop-k-test.true (ap too_large (get_d_any c.args.rows.now (16 * c.args.i + c.loop-k.k) zero_f nan (let w = c.requires in omega (arith, c.loop-k-test.true))) ∙ sym c.too_large.ensures ∙ c.if-too_large.true))

pub loop-k-preserved : goal.loop-k-preserved
loop-k-preserved c = (omega (arith, c.loop-k-test.true), c.loop-k.invariant.1 ∙ pass (λ (j : ℕ). too_large (get_or c.args.rows.now (16 * c.args.i + j) zero_f)) (λ _. true) false 16 c.loop-k.k c.loop-k-test.true (ap too_large (get_d_any c.args.rows.now (16 * c.args.i + c.loop-k.k) zero_f nan (let w = c.requires in omega (arith, c.loop-k-test.true))) ∙ sym c.too_large.ensures ∙ c.if-too_large.false))

pub returns : goal.returns
unfolding bad_row
returns c = sym (c.loop-k.invariant.1 ∙ over (λ (j : ℕ). too_large (get_or c.args.rows.now (16 * c.args.i + j) zero_f)) (λ _. true) false 16 c.loop-k.k c.loop-k-test.false)
