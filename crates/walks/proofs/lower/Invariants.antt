use mathlib.Core.Path.{◌≡◌, refl}
use Prim.Native.Nat.{◌*◌, ◌-◌, ◌≤◌}
use native.Mathlib.Omega.{arith}
use borrow.Author.Rules.{rules}
use lib.ListN.{length, length-set}
use Rattle.tree.specs.Tree.{Forest}
use Rattle.steps.specs.Row.{Row}
use Rattle.walks.specs.Tables.{RowsOf}
use Rattle.walks.proofs.LowerLoop.{Rest, Turn, begin, turn, end}
use Rattle.walks.proofs.lower.Given as goal

abbrev pub invariant-loop-a : goal.invariant-loop-a
invariant-loop-a l = (length l.rows ≡ length l.initial.rows) × (4 * l.a ≤ length l.words) × ((ts : Forest Row) → RowsOf l.words l.initial.rows l.marks ts → Rest l.words l.rows l.marks l.shift ts l.a)

abbrev pub decreases-loop-a : goal.decreases-loop-a
decreases-loop-a l = length l.words - l.a
