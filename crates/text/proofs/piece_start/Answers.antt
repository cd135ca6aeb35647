use Rattle.std.proofs.Common.{arith}
use Rattle.text.proofs.PieceTurn.{past_zero, next_start, no_start}
use Rattle.text.proofs.piece_start.Goals as goal

pub loop-init : goal.loop-init
loop-init c = (omega arith, past_zero _ _)

pub returns-then-end-s : goal.returns-then-end-s
returns-then-end-s c =
    no_start c.args.sep c.loop.counter c.args.k c.args.s.now c.loop.at _ (omega arith) c.loop.invariant.1 c.piece_end-end.ensures c.if-end-s.true

pub loop-preserved : goal.loop-preserved
loop-preserved c = (omega arith, next_start c.args.sep c.loop.counter c.args.s.now c.loop.at _ c.loop.invariant.1 c.piece_end-end.ensures)
