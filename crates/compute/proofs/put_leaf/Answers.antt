use native.Mathlib.Omega.{arith}
use Rattle.compute.proofs.Asked.{leaf_put}
use borrow.Author.Rules.{rules}
use Rattle.compute.proofs.put_leaf.Goals as goal

pub returns : goal.returns
returns c = leaf_put _ _ _ _ _ _ _ _ c.put_head.ensures (omega arith) (omega arith) c.clear.ensures c.clear_marks.ensures
