use mathlib.Core.Path.{◌≡◌}
use Prim.Native.Nat.{ℕ, ◌≤◌}
use Rattle.steps.specs.Noes.{holds}
use Rattle.edges.specs.Edges.{row_number, outward, edge_by}
use Rattle.edges.proofs.near_edge.Given as goal

abbrev pub invariant-loop-j : goal.invariant-loop-j
invariant-loop-j l = (l.j ≤ l.i) × (edge_by l.words l.rows l.f l.i ≡ outward (holds l.words l.i) (λ (k : ℕ). row_number l.rows k l.f) l.j l.edge)
