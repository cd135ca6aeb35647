use mathlib.Core.Path.{◌≡◌, refl, sym, ap, ◌∙◌}
use mathlib.Core.List.{List}
use Prim.Native.Nat.{◌+◌, ◌*◌, ◌-◌, ◌≤◌, ℕ, ◌<◌}
use native.Mathlib.Omega.{arith}
use borrow.Author.Rules.{rules}
use lib.ListN.{length}
use Rattle.tree.specs.Tree.{Forest}
use Rattle.steps.specs.Row.{Row}
use Rattle.steps.specs.Candidates.{candidates_f}
use Rattle.walks.specs.Tables.{RowsOf}
use Rattle.candidates.specs.Gathered.{RoomFor}
use Rattle.candidates.proofs.GatherLoop.{Rest, Turn, begin, turn, end}
use Rattle.candidates.proofs.OneTree.{Given-facts, given, one_room, moved_room, out_gathered, none_gathered, kids_given, laid_gathered}
use Rattle.candidates.proofs.+gather_gather_child.Given as goal

abbrev pub decreases-gather : goal.decreases-gather
decreases-gather l = 2 * length l.words.now + 1

abbrev pub decreases-gather_child : goal.decreases-gather_child
decreases-gather_child l = 2 * length l.words.now

abbrev pub invariant-gather-loop-a : goal.invariant-gather-loop-a
invariant-gather-loop-a l = (length l.pairs ≡ length l.initial.pairs) × (length l.triples ≡ length l.initial.triples) × (4 * l.a ≤ length l.words) × (l.used ≤ length l.initial.pairs)
    × ((ts : Forest Row) → RowsOf l.words l.rows l.marks ts → RoomFor (candidates_f l.base ts) l.initial.pairs l.initial.triples → Rest l.words l.rows l.marks l.base l.initial.pairs l.initial.triples l.pairs l.triples ts l.a l.used)

abbrev pub decreases-gather-loop-a : goal.decreases-gather-loop-a
decreases-gather-loop-a l = length l.words - l.a
