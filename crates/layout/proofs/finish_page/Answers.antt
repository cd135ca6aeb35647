use native.Mathlib.Omega.{arith}
use Rattle.layout.proofs.Finish.{Page-facts, page_facts, few_records, too_large, all_done}
use borrow.Author.Rules.{rules}
use Rattle.layout.proofs.finish_page.Goals as goal

pub first_large-found-requires : goal.first_large-found-requires
first_large-found-requires c = let f = page_facts _ _ _ _ _ c.requires in record { few = f.few; long = f.rows_long }

pub slice_bounds-gather-count : goal.slice_bounds-gather-count
slice_bounds-gather-count c = let f = page_facts _ _ _ _ _ c.requires in omega arith

pub slice_bounds-gather-start : goal.slice_bounds-gather-start
slice_bounds-gather-start c = let f = page_facts _ _ _ _ _ c.requires in omega arith

pub slice_bounds-gather-count-in-None : goal.slice_bounds-gather-count-in-None
slice_bounds-gather-count-in-None c = let f = page_facts _ _ _ _ _ c.requires in omega arith

pub slice_bounds-gather-start-in-None : goal.slice_bounds-gather-start-in-None
slice_bounds-gather-start-in-None c = let f = page_facts _ _ _ _ _ c.requires in omega arith

pub slice_bounds-gather-count-in-None-2 : goal.slice_bounds-gather-count-in-None-2
slice_bounds-gather-count-in-None-2 c = let f = page_facts _ _ _ _ _ c.requires in omega arith

pub slice_bounds-gather-start-in-None-2 : goal.slice_bounds-gather-start-in-None-2
slice_bounds-gather-start-in-None-2 c = let f = page_facts _ _ _ _ _ c.requires in omega arith

pub gather-n-requires : goal.gather-n-requires
gather-n-requires c = let f = page_facts _ _ _ _ _ c.requires in f.kids

pub overflow_cast-result : goal.overflow_cast-result
overflow_cast-result c = omega (arith, few_records c.args.words.now c.args.rows.now c.args.marks.now c.args.pairs.now c.args.triples.now _ _ _ c.requires c.gather-n.ensures)

pub returns-in-Some : goal.returns-in-Some
returns-in-Some c = too_large c.args.words.now c.args.rows.now c.args.marks.now c.args.pairs.now c.args.triples.now _ _ _ _ c.first_large-found.ensures c.in-Some.is c.clear.ensures c.clear_marks.ensures

pub returns-in-None : goal.returns-in-None
returns-in-None c = all_done c.args.words.now c.args.rows.now c.args.marks.now c.args.pairs.now c.args.triples.now _ _ _ _ c.first_large-found.ensures c.in-None.is c.gather-n.ensures
