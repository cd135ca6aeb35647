use borrow.Author.Rules.{rules}
use native.Mathlib.Omega.{arith}
use mathlib.Core.Path.{◌≡◌, refl, sym, ◌∙◌, ap}
use mathlib.Core.List.{◌++◌}
use Prim.Native.Nat.{◌+◌, ◌≤◌, ◌-◌}
use lib.ListN.{length, take, drop, length-set}
use lib.Ieee.{Float, nan, neg, of_bits}
use Rattle.scroll.specs.Running.{lowest_f, running_from, running_of}
use Rattle.scroll.proofs.RunningLaws.{length_running}
use Rattle.index.proofs.Filling.{put_value, running-here, running-past, all_put}
use Rattle.index.proofs.put_running.Given as goal

abbrev pub invariant-loop-k : goal.invariant-loop-k
invariant-loop-k l = (l.k ≤ length l.bottoms) × (length l.running ≡ length l.bottoms) × (l.running ≡ take l.k (running_of l.bottoms) ++ drop l.k l.initial.running) × (drop l.k (running_of l.bottoms) ≡ running_from l.most (drop l.k l.bottoms))
