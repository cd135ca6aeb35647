use Rattle.rows.specs.Store.{head_bits}
use native.Mathlib.Omega.{arith}
use mathlib.Core.Path.{refl}
use lib.ListN.{length-set}
use Rattle.steps.specs.Row.{probe_of, laid_row}
use borrow.Author.Rules.{rules}
use Rattle.rows.proofs.put_head.Goals as goal

pub bounds-rows-1 : goal.bounds-rows-1
bounds-rows-1 c = simp length-set (omega arith)

pub bounds-rows-2 : goal.bounds-rows-2
bounds-rows-2 c = simp length-set (omega arith)

pub bounds-rows-3 : goal.bounds-rows-3
bounds-rows-3 c = simp length-set (omega arith)

pub bounds-rows-4 : goal.bounds-rows-4
bounds-rows-4 c = simp length-set (omega arith)

pub bounds-rows-5 : goal.bounds-rows-5
bounds-rows-5 c = simp length-set (omega arith)

pub bounds-rows-6 : goal.bounds-rows-6
bounds-rows-6 c = simp length-set (omega arith)

pub bounds-rows-7 : goal.bounds-rows-7
bounds-rows-7 c = simp length-set (omega arith)

pub bounds-rows-8 : goal.bounds-rows-8
bounds-rows-8 c = simp length-set (omega arith)

pub bounds-rows-9 : goal.bounds-rows-9
bounds-rows-9 c = simp length-set (omega arith)

pub bounds-rows-10 : goal.bounds-rows-10
bounds-rows-10 c = simp length-set (omega arith)

pub bounds-rows-14 : goal.bounds-rows-14
bounds-rows-14 c = simp length-set (omega arith)

pub bounds-rows-15 : goal.bounds-rows-15
bounds-rows-15 c = simp length-set (omega arith)

pub shape_of-rows : goal.shape_of-rows
shape_of-rows c = simp length-set refl

pub returns : goal.returns
unfolding probe_of laid_row head_bits
returns c = λ r z y er em. (rw (c.unwrap_or-5.ensures, c.unwrap_or-4.ensures, c.unwrap_or-3.ensures, c.unwrap_or-2.ensures, c.unwrap_or.ensures, er), rw (c.head_bits.ensures, c.is_some-3.ensures, c.is_some-2.ensures, c.is_some.ensures, em))
