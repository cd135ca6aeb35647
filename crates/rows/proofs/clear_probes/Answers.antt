use mathlib.Core.Path.{◌≡◌, refl}
use mathlib.Core.List.{List}
use Prim.Native.Nat.{◌-◌, ◌*◌, ◌≤◌}
use native.Mathlib.Omega.{arith}
use lib.ListN.{length, length-set}
use Rattle.steps.specs.Row.{Row, row_numbers, row_words}
use Rattle.steps.specs.Results.{listed}
use Rattle.rows.proofs.ClearLoop.{Rest, begin, turn, end}
use borrow.Author.Tests.{lt-ltb, le-ltb}
use Rattle.rows.proofs.clear_probes.Goals as goal

pub loop-i-init : goal.loop-i-init
loop-i-init c = (refl, refl, omega arith, λ l er em. begin _ _ l er em)

pub overflow_mul-k : goal.overflow_mul-k
overflow_mul-k c = let w = c.requires in omega arith

pub overflow_add-k : goal.overflow_add-k
overflow_add-k c = let w = c.requires in omega arith

pub overflow_mul-m : goal.overflow_mul-m
overflow_mul-m c = let w = c.requires in omega arith

pub overflow_add-m : goal.overflow_add-m
overflow_add-m c = let w = c.requires in omega arith

pub offset_bounds-rows-k : goal.offset_bounds-rows-k
offset_bounds-rows-k c = let w = c.requires in omega arith

pub bounds-rows-k : goal.bounds-rows-k
bounds-rows-k c = let w = c.requires in omega arith

pub overflow_add-rows : goal.overflow_add-rows
overflow_add-rows c = let w = c.requires in omega arith

pub offset_bounds-rows-k-in-loop-i : goal.offset_bounds-rows-k-in-loop-i
offset_bounds-rows-k-in-loop-i c = let w = c.requires in omega arith

pub bounds-rows-k-in-loop-i : goal.bounds-rows-k-in-loop-i
bounds-rows-k-in-loop-i c = let w = c.requires in simp length-set (omega arith)

pub overflow_add-rows-in-loop-i : goal.overflow_add-rows-in-loop-i
overflow_add-rows-in-loop-i c = let w = c.requires in omega arith

pub offset_bounds-rows-k-in-loop-i-2 : goal.offset_bounds-rows-k-in-loop-i-2
offset_bounds-rows-k-in-loop-i-2 c = let w = c.requires in omega arith

pub bounds-rows-k-in-loop-i-2 : goal.bounds-rows-k-in-loop-i-2
bounds-rows-k-in-loop-i-2 c = let w = c.requires in simp length-set (omega arith)

pub offset_bounds-marks-m : goal.offset_bounds-marks-m
offset_bounds-marks-m c = let w = c.requires in omega arith

pub bounds-marks-m : goal.bounds-marks-m
bounds-marks-m c = let w = c.requires in omega arith

pub offset_bounds-marks-m-in-loop-i : goal.offset_bounds-marks-m-in-loop-i
offset_bounds-marks-m-in-loop-i c = let w = c.requires in omega arith

pub bounds-marks-m-in-loop-i : goal.bounds-marks-m-in-loop-i
bounds-marks-m-in-loop-i c = let w = c.requires in omega arith

pub loop-i-smaller : goal.loop-i-smaller
loop-i-smaller c = let w = c.requires in omega arith

pub loop-i-preserved : goal.loop-i-preserved
loop-i-preserved c = (
  simp length-set c.loop-i.invariant.0,
  simp length-set c.loop-i.invariant.1,
  let w = c.requires in omega (arith, c.loop-i.invariant.1),
  λ l er em. turn _ _ l _ _ (c.loop-i.invariant.3 l er em) (let w = c.requires in omega (arith, c.loop-i.invariant.1, c.loop-i-test.true)) c.clear_bits.ensures,
)

pub returns : goal.returns
returns c = λ l er em. end _ _ l _ (c.loop-i.invariant.3 l er em) (let w = c.requires in omega (arith, c.loop-i.invariant.1, c.loop-i-test.false))
