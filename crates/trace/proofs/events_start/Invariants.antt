use mathlib.Core.Path.{◌≡◌}
use mathlib.Core.Bool.{true}
use Prim.Native.Nat.{◌+◌, ◌-◌, ◌≤◌}
use lib.ListN.{length, drop}
use Rattle.trace.specs.File.{before_events}
use Rattle.trace.proofs.events_start.Given as goal

abbrev pub invariant-loop-i : goal.invariant-loop-i
invariant-loop-i l = (l.i ≤ length l.text) × (l.line ≤ l.i + 1) × ((before_events true l.text).0 ≡ l.i + (before_events l.fresh (drop l.i l.text)).0) × ((before_events true l.text).1 + 1 ≡ l.line + (before_events l.fresh (drop l.i l.text)).1)

abbrev pub decreases-loop-i : goal.decreases-loop-i
decreases-loop-i l = length l.text - l.i
