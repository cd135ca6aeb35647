use mathlib.Core.Path.{◌≡◌, refl}
use mathlib.Core.List.{List, ◌++◌}
use Prim.Native.Nat.{◌-◌, ◌≤◌}
use native.Mathlib.Omega.{arith}
use lib.ListN.{length, length-set}
use lib.Ieee.{Float}
use Rattle.steps.specs.Results.{listed}
use Rattle.steps.specs.Candidates.{Candidate, candidate_numbers}
use Rattle.candidates.proofs.MoveLoop.{Rest, begin, turn, end}
use Rattle.candidates.proofs.move_records.Goals as goal

pub loop-i-init : goal.loop-i-init
loop-i-init c = (refl, omega arith, λ l z e h. begin _ _ _ l z e)

pub overflow_mul-k : goal.overflow_mul-k
overflow_mul-k c = let w = c.requires in let i = c.loop-i.invariant in omega (arith, i.0, i.1)

pub offset_bounds-triples-k : goal.offset_bounds-triples-k
offset_bounds-triples-k c = let w = c.requires in let i = c.loop-i.invariant in omega (arith, i.0, i.1)

pub bounds-triples-k : goal.bounds-triples-k
bounds-triples-k c = let w = c.requires in let i = c.loop-i.invariant in omega (arith, i.0, i.1)

pub offset_bounds-triples-k-in-loop-i : goal.offset_bounds-triples-k-in-loop-i
offset_bounds-triples-k-in-loop-i c = let w = c.requires in let i = c.loop-i.invariant in omega (arith, i.0, i.1)

pub bounds-triples-k-in-loop-i : goal.bounds-triples-k-in-loop-i
bounds-triples-k-in-loop-i c = let w = c.requires in let i = c.loop-i.invariant in omega (arith, i.0, i.1)

pub overflow_add-triples : goal.overflow_add-triples
overflow_add-triples c = let w = c.requires in let i = c.loop-i.invariant in omega (arith, i.0, i.1)

pub offset_bounds-triples-k-in-loop-i-2 : goal.offset_bounds-triples-k-in-loop-i-2
offset_bounds-triples-k-in-loop-i-2 c = let w = c.requires in let i = c.loop-i.invariant in omega (arith, i.0, i.1)

pub bounds-triples-k-in-loop-i-2 : goal.bounds-triples-k-in-loop-i-2
bounds-triples-k-in-loop-i-2 c = let w = c.requires in let i = c.loop-i.invariant in simp length-set (omega (arith, i.0, i.1))

pub overflow_add-triples-in-loop-i : goal.overflow_add-triples-in-loop-i
overflow_add-triples-in-loop-i c = let w = c.requires in let i = c.loop-i.invariant in omega (arith, i.0, i.1)

pub offset_bounds-triples-k-in-loop-i-3 : goal.offset_bounds-triples-k-in-loop-i-3
offset_bounds-triples-k-in-loop-i-3 c = let w = c.requires in let i = c.loop-i.invariant in omega (arith, i.0, i.1)

pub bounds-triples-k-in-loop-i-3 : goal.bounds-triples-k-in-loop-i-3
bounds-triples-k-in-loop-i-3 c = let w = c.requires in let i = c.loop-i.invariant in simp length-set (omega (arith, i.0, i.1))

pub overflow_add-triples-in-loop-i-2 : goal.overflow_add-triples-in-loop-i-2
overflow_add-triples-in-loop-i-2 c = let w = c.requires in let i = c.loop-i.invariant in omega (arith, i.0, i.1)

pub offset_bounds-triples-k-in-loop-i-4 : goal.offset_bounds-triples-k-in-loop-i-4
offset_bounds-triples-k-in-loop-i-4 c = let w = c.requires in let i = c.loop-i.invariant in omega (arith, i.0, i.1)

pub bounds-triples-k-in-loop-i-4 : goal.bounds-triples-k-in-loop-i-4
bounds-triples-k-in-loop-i-4 c = let w = c.requires in let i = c.loop-i.invariant in simp length-set (omega (arith, i.0, i.1))

pub overflow_add-triples-in-loop-i-3 : goal.overflow_add-triples-in-loop-i-3
overflow_add-triples-in-loop-i-3 c = let w = c.requires in let i = c.loop-i.invariant in omega (arith, i.0, i.1)

pub offset_bounds-triples-k-in-loop-i-5 : goal.offset_bounds-triples-k-in-loop-i-5
offset_bounds-triples-k-in-loop-i-5 c = let w = c.requires in let i = c.loop-i.invariant in omega (arith, i.0, i.1)

pub bounds-triples-k-in-loop-i-5 : goal.bounds-triples-k-in-loop-i-5
bounds-triples-k-in-loop-i-5 c = let w = c.requires in let i = c.loop-i.invariant in simp length-set (omega (arith, i.0, i.1))

pub loop-i-preserved : goal.loop-i-preserved
loop-i-preserved c = let i = c.loop-i.invariant in (simp length-set i.0, omega (arith, c.loop-i-test.true), λ l z e h. turn _ _ _ l z _ _ (i.2 l z e h) h c.loop-i-test.true)

pub shape_of-triples : goal.shape_of-triples
shape_of-triples c = c.loop-i.invariant.0

pub returns : goal.returns
returns c = λ l z e h. end _ _ _ l z _ _ (c.loop-i.invariant.2 l z e h) h c.loop-i-test.false
