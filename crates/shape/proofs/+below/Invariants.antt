use mathlib.Core.Path.{sym, ◌∙◌}
use Prim.Native.Nat.{◌≤◌, ◌-◌, ℕ, ◌<◌}
use native.Mathlib.Omega.{arith}
use borrow.Author.Rules.{rules}
use Rattle.steps.specs.Page.{nodes_in}
use Rattle.shape.proofs.Fronts.{fine}
use Rattle.shape.proofs.CheckTurn.{Reached, reached_none, reached_all, bad-here, run-nodes, found, next}
use Rattle.shape.proofs.+below.Given as goal

abbrev pub decreases-below : goal.decreases-below
decreases-below l = l.depth

abbrev pub invariant-loop-a : goal.invariant-loop-a
invariant-loop-a l = (l.a ≤ nodes_in l.words) × Reached l.words l.base l.depth l.a

abbrev pub decreases-loop-a : goal.decreases-loop-a
decreases-loop-a l = nodes_in l.words - l.a
