use mathlib.Core.Path.{◌≡◌, refl}
use mathlib.Core.List.{List, ◌++◌}
use Prim.Native.Nat.{◌-◌, ◌≤◌}
use native.Mathlib.Omega.{arith}
use lib.ListN.{length, length-set}
use lib.Ieee.{Float}
use Rattle.steps.specs.Results.{listed}
use Rattle.steps.specs.Candidates.{Candidate, candidate_numbers}
use Rattle.candidates.proofs.MoveLoop.{Rest, begin, turn, end}
use Rattle.candidates.proofs.move_records.Given as goal

abbrev pub invariant-loop-i : goal.invariant-loop-i
invariant-loop-i v = (length v.triples ≡ length v.initial.triples) × (v.i ≤ v.n) × ((l : List Candidate) (z : List Float) → v.initial.triples ≡ listed candidate_numbers l ++ z → length l ≡ v.n → Rest v.triples v.x v.y l z v.i)
