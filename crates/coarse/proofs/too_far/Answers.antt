use Rattle.coarse.specs.Panel.{too_far}
use Rattle.coarse.proofs.too_far.Goals as goal

pub returns-then-too_large : goal.returns-then-too_large
unfolding too_far
returns-then-too_large c = rw (← c.too_large.ensures, c.if-too_large.true)

pub returns : goal.returns
unfolding too_far
returns c = rw (← c.too_large.ensures, c.if-too_large.false, c.too_large-2.ensures)
