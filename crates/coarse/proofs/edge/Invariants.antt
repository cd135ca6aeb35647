use mathlib.Core.Path.{◌≡◌}
use Prim.Native.Nat.{ℕ, ◌≤◌}
use Rattle.edges.specs.Edges.{row_number}
use Rattle.coarse.specs.Above.{stacked, climb, climbed}
use Rattle.coarse.proofs.edge.Given as goal

abbrev pub invariant-loop-k : goal.invariant-loop-k
invariant-loop-k l = (l.k ≤ 32) × (climbed l.rows (stacked l.up l.d) l.f l.i ≡ climb (λ (j : ℕ). row_number l.rows j l.f) (stacked l.up l.k) l.edge)
