use mathlib.Core.Path.{◌≡◌, refl, sym, ap, ◌∙◌}
use mathlib.Core.List.{List}
use Prim.Native.Nat.{ℕ, ◌+◌, ◌*◌, ◌-◌, ◌≤◌}
use native.Mathlib.Omega.{arith}
use borrow.Author.Rules.{rules}
use lib.ListN.{length, length-set}
use lib.Ieee.{Float}
use Rattle.tree.specs.Tree.{Forest}
use Rattle.style.specs.Flow.{flow_at}
use Rattle.steps.specs.Page.{Cell}
use Rattle.walks.specs.Tables.{TabledF}
use Rattle.walks.proofs.KeepLoop.{Rest, Turn, begin, turn, end}
use Rattle.walks.proofs.keep_below.Given as goal

abbrev pub invariant-loop-i : goal.invariant-loop-i
invariant-loop-i l = (length l.rows ≡ length l.initial.rows) × (length l.marks ≡ length l.initial.marks) × (4 * l.i ≤ length l.words)
    × ((xs : List Float) (es : List ℕ) (b : ℕ) (ts : Forest Cell) → TabledF l.words xs l.initial.rows l.initial.marks es b ts → Rest l.words xs l.rows l.marks es b ts l.i)

abbrev pub decreases-loop-i : goal.decreases-loop-i
decreases-loop-i l = length l.words - l.i
