use native.Mathlib.Omega.{arith}
use lib.ListN.{length-take}
use Prim.Native.Nat.{◌*◌}
use borrow.Author.Rules.{rules}
use Rattle.steps.specs.Question.{root_input}
use Rattle.records.proofs.Within.{layout-cut-at}
use Rattle.records.proofs.layout_within.Goals as goal

pub slice_bounds-layout-end-2 : goal.slice_bounds-layout-end-2
slice_bounds-layout-end-2 c = let p = length-take (2 * c.smaller-m.result) c.args.pairs.now in
    omega (arith, p, c.smaller-m.ensures, c.smaller.ensures)

pub slice_bounds-layout-end-4 : goal.slice_bounds-layout-end-4
slice_bounds-layout-end-4 c = let p = length-take (3 * c.smaller-m.result) c.args.triples.now in
    omega (arith, p, c.smaller-m.ensures, c.smaller.ensures)

pub returns : goal.returns
returns c = layout-cut-at c.args.words.now c.args.numbers.now c.args.rows.now c.args.marks.now c.args.pairs.now c.args.triples.now c.args.k c.smaller-m.result (omega (arith, c.smaller-m.ensures, c.smaller.ensures)) (root_input c.args.q) _ _ _ _ _ c.layout.ensures
