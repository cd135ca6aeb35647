use native.Mathlib.Omega.{arith}
use Rattle.compute.proofs.Ending.{one_row, align-given, ended}
use borrow.Author.Rules.{rules}
use Rattle.compute.proofs.finish.Goals as goal

pub put_head-requires : goal.put_head-requires
put_head-requires c = one_row c.args.words.now c.args.numbers.now c.args.rows.now c.args.marks.now c.args.base c.requires

pub slice_bounds-align-count-2 : goal.slice_bounds-align-count-2
slice_bounds-align-count-2 c = let r = one_row c.args.words.now c.args.numbers.now c.args.rows.now c.args.marks.now c.args.base c.requires in omega arith

pub slice_bounds-align-start-2 : goal.slice_bounds-align-start-2
slice_bounds-align-start-2 c = let r = one_row c.args.words.now c.args.numbers.now c.args.rows.now c.args.marks.now c.args.base c.requires in omega arith

pub slice_bounds-align-count-3 : goal.slice_bounds-align-count-3
slice_bounds-align-count-3 c = let r = one_row c.args.words.now c.args.numbers.now c.args.rows.now c.args.marks.now c.args.base c.requires in omega arith

pub slice_bounds-align-start-3 : goal.slice_bounds-align-start-3
slice_bounds-align-start-3 c = let r = one_row c.args.words.now c.args.numbers.now c.args.rows.now c.args.marks.now c.args.base c.requires in omega arith

pub align-requires : goal.align-requires
align-requires c = align-given c.args.words.now c.args.numbers.now c.args.rows.now c.args.marks.now c.args.base c.args.input c.args.stack _ _ _ c.finish_at-finished.ensures c.put_head.ensures c.requires

pub returns : goal.returns
returns c = ended c.args.words.now c.args.numbers.now c.args.rows.now c.args.marks.now c.args.base c.args.input c.args.stack _ _ _ c.finish_at-finished.ensures c.put_head.ensures _ c.align.ensures
