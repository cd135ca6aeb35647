use mathlib.Core.Path.{◌≡◌}
use mathlib.Core.Bool.{true, false}
use Prim.Native.Nat.{ℕ, ◌+◌, ◌*◌, ◌-◌, ◌≤◌}
use lib.ListN.{get_or}
use Rattle.geometry.specs.Geometry.{zero_f}
use Rattle.limits.specs.Limits.{too_large}
use Rattle.steps.specs.Scan.{scan}
use Rattle.layout.proofs.row_large.Given as goal

abbrev pub invariant-loop-k : goal.invariant-loop-k
invariant-loop-k l = (l.k ≤ 16) × (scan (λ (j : ℕ). too_large (get_or l.rows (16 * l.i + j) zero_f)) (λ _. true) false 0 16 ≡ scan (λ (j : ℕ). too_large (get_or l.rows (16 * l.i + j) zero_f)) (λ _. true) false l.k (16 - l.k))
