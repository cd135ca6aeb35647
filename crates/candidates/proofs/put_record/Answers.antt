use native.Mathlib.Omega.{arith}
use mathlib.Core.Path.{refl}
use lib.ListN.{length-set}
use Rattle.candidates.proofs.OneTree.{pair_put, triple_put}
use borrow.Author.Rules.{rules}
use Rattle.candidates.proofs.put_record.Goals as goal

pub bounds-triples-1 : goal.bounds-triples-1
bounds-triples-1 c = simp length-set (omega arith)

pub returns : goal.returns
returns c = record { pairs_are = pair_put c.args.pairs.now _ _ c.requires.pairs_room; triples_are = triple_put c.args.triples.now _ _ _ c.requires.triples_room }
