use Rattle.std.specs.Prelude.{None}
use mathlib.Core.Path.{◌≡◌}
use Prim.Native.Nat.{◌≤◌, ◌-◌}
use lib.ListN.{length}
use Rattle.steps.specs.Scan.{scan, at_node, lowest}
use Rattle.edges.specs.Edges.{edge_by}
use Rattle.coarse.specs.Panel.{far_node}
use Rattle.coarse.specs.Above.{before, stacked}
use Rattle.coarse.proofs.first_too_far.Given as goal

-- no node up to i is too far
abbrev pub invariant-loop-i : goal.invariant-loop-i
invariant-loop-i l = (l.i ≤ l.n) × (l.d ≤ 32) × (length l.up ≡ 32) × (stacked l.up l.d ≡ before l.words l.i)
    × (lowest (far_node (edge_by l.words l.rows) l.rows l.marks) l.n ≡ scan (far_node (edge_by l.words l.rows) l.rows l.marks) at_node None l.i (l.n - l.i))
