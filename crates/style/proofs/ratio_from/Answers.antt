use Rattle.style.specs.Codes.{ratio_of}
use Rattle.style.proofs.ratio_from.Goals as goal

pub returns-then-x : goal.returns-then-x
unfolding ratio_of
returns-then-x c = rw c.if-x.true

pub returns-else-x : goal.returns-else-x
unfolding ratio_of
returns-else-x c = rw c.if-x.false
