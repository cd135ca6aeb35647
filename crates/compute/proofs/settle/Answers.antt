use borrow.Author.Rules.{rules}
use Rattle.compute.proofs.Asked.{settled}
use Rattle.compute.proofs.settle.Goals as goal

pub returns : goal.returns
returns c = settled _ _ _ _ _ _ _ _ _ _ c.place_of-place.ensures c.put_place.ensures c.stepped_past.ensures
