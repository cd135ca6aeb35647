use native.Mathlib.Omega.{arith}
use mathlib.Core.Path.{refl}
use lib.ListN.{length-set}
use Rattle.steps.specs.Row.{put_at}
use borrow.Author.Rules.{rules}
use Rattle.rows.proofs.put_place.Goals as goal

pub bounds-rows-1 : goal.bounds-rows-1
bounds-rows-1 c = simp length-set (omega arith)

pub returns : goal.returns
unfolding put_at
returns c = λ r z y er em. (rw er, rw em)
