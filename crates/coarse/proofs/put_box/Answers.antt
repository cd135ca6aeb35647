use lib.ListN.{length-set}
use borrow.Author.Rules.{rules}
use Rattle.coarse.proofs.put_box.Goals as goal

pub bounds-out-i-2 : goal.bounds-out-i-2
bounds-out-i-2 c = simp length-set (search rules)

pub bounds-out-i-3 : goal.bounds-out-i-3
bounds-out-i-3 c = simp length-set (search rules)

pub bounds-out-i-4 : goal.bounds-out-i-4
bounds-out-i-4 c = simp length-set (search rules)
