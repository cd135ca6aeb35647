use mathlib.Core.Path.{◌≡◌}
use Prim.Native.Nat.{◌-◌, ◌≤◌}
use Rattle.records.proofs.Run.{after}
use Rattle.records.proofs.store_records.Given as goal

abbrev pub invariant-loop-k : goal.invariant-loop-k
invariant-loop-k l = (l.k ≤ l.n) × (l.out ≡ after l.pairs l.triples l.initial.out l.k)
