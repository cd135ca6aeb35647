use native.Mathlib.Omega.{arith}
use Rattle.layout.proofs.BothPasses.{tree_before, tree_between, page-after, relays}
use borrow.Author.Rules.{rules}
use Rattle.layout.proofs.relay.Goals as goal

pub width_pass-found-requires : goal.width_pass-found-requires
width_pass-found-requires c = tree_before c.args.words.now c.args.numbers.now c.args.rows.now c.args.marks.now c.args.edits.now c.args.pairs.now c.args.triples.now c.requires

pub compute_block_layout-out-requires : goal.compute_block_layout-out-requires
compute_block_layout-out-requires c = tree_between c.args.words.now c.args.numbers.now c.args.rows.now c.args.marks.now c.args.edits.now c.args.pairs.now c.args.triples.now c.args.q _ _ _ c.requires c.width_pass-found.ensures

pub finish_page-requires : goal.finish_page-requires
finish_page-requires c = page-after c.args.words.now c.args.numbers.now c.args.rows.now c.args.marks.now c.args.edits.now c.args.q _ _ _ c.width_pass-found.ensures _ _ _ c.compute_block_layout-out.ensures _ _ c.requires

pub returns : goal.returns
returns c = relays c.args.words.now c.args.numbers.now c.args.rows.now c.args.marks.now c.args.edits.now c.args.q _ _ _ c.width_pass-found.ensures _ _ _ c.compute_block_layout-out.ensures _ _ _ _ _ _ _ c.finish_page.ensures
