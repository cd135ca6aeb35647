use borrow.Author.Rules.{rules}
use native.Mathlib.Omega.{arith}
use mathlib.Core.Path.{◌≡◌, refl, ◌∙◌}
use mathlib.Core.List.{◌++◌, map}
use Prim.Native.Nat.{◌≤◌, ◌-◌}
use lib.ListN.{length, take, drop, length-set, length-map}
use Rattle.index.specs.Loops.{top_by, bottom_by}
use Rattle.index.proofs.Filling.{put_map, all_put}
use Rattle.index.proofs.put_edges.Given as goal

abbrev pub invariant-loop-k : goal.invariant-loop-k
invariant-loop-k l = (l.k ≤ length l.list) × (length l.tops ≡ length l.list) × (length l.bottoms ≡ length l.list)
    × (l.tops ≡ take l.k (map (top_by l.words l.rows) l.list) ++ drop l.k l.initial.tops) × (l.bottoms ≡ take l.k (map (bottom_by l.words l.rows) l.list) ++ drop l.k l.initial.bottoms)
