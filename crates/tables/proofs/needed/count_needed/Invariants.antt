use mathlib.Core.Path.{ap, ◌∙◌}
use mathlib.Core.List.{List, []}
use Prim.Native.Nat.{ℕ, ◌+◌, ◌-◌, ◌<◌, ◌≤◌}
use native.Mathlib.Omega.{arith}
use lib.Ieee.{Float}
use borrow.Author.Rules.{rules}
use Rattle.steps.specs.Page.{nodes_in}
use Rattle.style.specs.Flow.{flow_at}
use Rattle.tables.proofs.NeededWalk.{Left, begin, turn, end}
use Rattle.tables.proofs.needed.count_needed.Given as goal

abbrev pub invariant-loop-i : goal.invariant-loop-i
invariant-loop-i l = (1 ≤ l.i) × (l.i ≤ nodes_in l.words) × (l.count < l.i) × ((xs : List Float) → Left l.words xs l.i l.count)

abbrev pub decreases-loop-i : goal.decreases-loop-i
decreases-loop-i l = nodes_in l.words - l.i
