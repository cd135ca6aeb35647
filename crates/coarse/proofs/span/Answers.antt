use Rattle.coarse.specs.Panel.{span_of}
use Rattle.coarse.proofs.span.Goals as goal

pub returns : goal.returns
unfolding span_of
returns c = rw (c.edge-near.ensures, c.row_number.ensures)
