use Rattle.face.proofs.Calls.{coarsened}
use borrow.Author.Rules.{rules}
use Rattle.face.proofs.mearrasot_coarse.Goals as goal

pub returns : goal.returns
returns c = coarsened c.coarse-a.ensures c.packed_coarse.ensures
