use Rattle.print.proofs.PenLaws.{full, room}
use Rattle.print.proofs.put.Goals as goal

pub returns-then-out-at : goal.returns-then-out-at
returns-then-out-at c = let a = c.args in full a.b a.at a.out.now c.if-out-at.true

pub returns : goal.returns
returns c = let a = c.args in room a.b a.at a.out.now c.if-out-at.false
