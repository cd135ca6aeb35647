use Rattle.std.specs.Prelude.{None}
use mathlib.Core.Path.{◌≡◌}
use Prim.Native.Nat.{◌-◌, ◌≤◌}
use Rattle.steps.specs.Scan.{scan, at_node}
use Rattle.steps.specs.Noes.{bad_row}
use Rattle.layout.proofs.first_large.Given as goal

abbrev pub invariant-loop-i : goal.invariant-loop-i
invariant-loop-i l = (l.i ≤ l.n) × (scan (bad_row l.rows) at_node None 0 l.n ≡ scan (bad_row l.rows) at_node None l.i (l.n - l.i))
