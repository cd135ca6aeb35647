use native.Mathlib.Omega.{arith}
use Rattle.records.proofs.Run.{turn, start}
use Rattle.records.proofs.store_records.Goals as goal

pub loop-k-init : goal.loop-k-init
loop-k-init c = (omega arith, start _ _ _)

pub loop-k-preserved : goal.loop-k-preserved
loop-k-preserved c =
    (omega arith, rw (c.record_at.ensures, c.loop-k.invariant.1) (turn c.args.pairs.now c.args.triples.now c.args.out.now c.loop-k.k (omega arith)))
