use Rattle.face.proofs.Calls.{indexed}
use borrow.Author.Rules.{rules}
use Rattle.face.proofs.mearrasot_index.Goals as goal

pub returns : goal.returns
returns c = indexed c.make_index-a.ensures c.packed_index.ensures
