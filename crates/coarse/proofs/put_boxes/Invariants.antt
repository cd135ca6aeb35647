use mathlib.Core.Path.{◌≡◌}
use mathlib.Core.List.{◌++◌}
use Prim.Native.Nat.{◌*◌, ◌≤◌}
use lib.ListN.{length, drop}
use Rattle.edges.specs.Edges.{edge_by}
use Rattle.coarse.specs.Panel.{boxes_of}
use Rattle.coarse.specs.Above.{before, stacked}
use Rattle.coarse.specs.Spans.{seen_place}
use Rattle.coarse.proofs.put_boxes.Given as goal

-- the boxes of the nodes up to i are put, and what follows is as lent
abbrev pub invariant-loop-i : goal.invariant-loop-i
invariant-loop-i l = (l.i ≤ l.n) × (l.d ≤ 32) × (length l.up ≡ 32) × (stacked l.up l.d ≡ before l.words l.i)
    × (length l.out ≡ 4 * l.n) × (l.out ≡ boxes_of (seen_place (edge_by l.words l.rows) l.rows l.marks) 0 l.i ++ drop (4 * l.i) l.initial.out)
