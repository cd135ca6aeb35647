use borrow.Author.Rules.{rules}
use native.Mathlib.Omega.{arith}
use mathlib.Core.Path.{◌≡◌, refl, sym, ◌∙◌, ap}
use mathlib.Core.List.{◌++◌}
use Prim.Native.Nat.{◌+◌, ◌≤◌, ◌-◌}
use lib.ListN.{length, take, drop, length-set}
use lib.Ieee.{Float, nan, neg, of_bits}
use Rattle.scroll.specs.Running.{lowest_f, running_from, running_of}
use Rattle.scroll.proofs.RunningLaws.{length_running}
use Rattle.index.proofs.Filling.{put_value, running-here, running-past, all_put}
use Rattle.index.proofs.put_running.Goals as goal

pub loop-k-init : goal.loop-k-init
unfolding neg of_bits
loop-k-init c = (omega arith, c.requires, refl, refl)

pub loop-k-preserved : goal.loop-k-preserved
loop-k-preserved c = let a = c.args in
    let l = c.loop-k in
    let t = c.loop-k-test.true in
    let w = running_of a.bottoms.now in
    let n = length_running lowest_f a.bottoms.now in
    let p : length a.running.now ≡ length a.bottoms.now = c.requires in
    let x = c.f32_max-most.ensures in (
      omega arith,
      simp length-set l.invariant.1,
      put_value w a.running.now l.running l.k _ nan (omega arith) (omega arith) l.invariant.2 (x ∙ running-here l.most w a.bottoms.now l.k t l.invariant.3),
      running-past l.most w a.bottoms.now l.k t l.invariant.3 ∙ ap (λ (m : Float). running_from m (drop (l.k + 1) a.bottoms.now)) (sym x),
    )

pub returns : goal.returns
returns c = let a = c.args in
    let l = c.loop-k in
    let n = length_running lowest_f a.bottoms.now in
    let p : length a.running.now ≡ length a.bottoms.now = c.requires in
    l.invariant.2 ∙ all_put (running_of a.bottoms.now) a.running.now l.k (omega arith) (omega arith)
