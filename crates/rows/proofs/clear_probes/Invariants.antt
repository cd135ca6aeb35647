use mathlib.Core.Path.{◌≡◌, refl}
use mathlib.Core.List.{List}
use Prim.Native.Nat.{◌-◌, ◌*◌, ◌≤◌}
use native.Mathlib.Omega.{arith}
use lib.ListN.{length, length-set}
use Rattle.steps.specs.Row.{Row, row_numbers, row_words}
use Rattle.steps.specs.Results.{listed}
use Rattle.rows.proofs.ClearLoop.{Rest, begin, turn, end}
use borrow.Author.Tests.{lt-ltb, le-ltb}
use Rattle.rows.proofs.clear_probes.Given as goal

abbrev pub invariant-loop-i : goal.invariant-loop-i
invariant-loop-i v = (length v.rows ≡ length v.initial.rows) × (length v.marks ≡ length v.initial.marks) × (2 * v.i ≤ length v.initial.marks) × ((l : List Row) → v.initial.rows ≡ listed row_numbers l → v.initial.marks ≡ listed row_words l → Rest v.rows v.marks l v.i)
