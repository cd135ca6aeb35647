use mathlib.Core.Path.{◌≡◌}
use Prim.Native.Nat.{◌≤◌}
use Rattle.steps.specs.Noes.{holds}
use Rattle.coarse.specs.Above.{trimmed, stacked}
use Rattle.coarse.proofs.still_above.Given as goal

abbrev pub invariant-loop-k : goal.invariant-loop-k
invariant-loop-k l = (l.k ≤ l.d) × (trimmed (holds l.words l.i) (stacked l.up l.d) ≡ trimmed (holds l.words l.i) (stacked l.up l.k))
