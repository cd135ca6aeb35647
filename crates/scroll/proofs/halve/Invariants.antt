use mathlib.Core.Path.{◌≡◌, sym, ◌∙◌}
use Prim.Native.Nat.{◌-◌, ◌≤◌}
use native.Mathlib.Omega.{arith}
use lib.ListN.{length}
use borrow.Author.Rules.{rules}
use Rattle.scroll.proofs.HalvingLaws.{enough, over, lower, upper}
use Rattle.scroll.specs.Halving.{beyond, halved}
use Rattle.scroll.proofs.halve.Given as goal

abbrev pub invariant-loop-lo : goal.invariant-loop-lo
invariant-loop-lo l = (l.lo ≤ l.hi) × (l.hi ≤ length l.running) × (halved (beyond l.running l.y) (length l.running) 0 (length l.running) ≡ halved (beyond l.running l.y) (l.hi - l.lo) l.lo l.hi)

abbrev pub decreases-loop-lo : goal.decreases-loop-lo
decreases-loop-lo l = l.hi - l.lo
