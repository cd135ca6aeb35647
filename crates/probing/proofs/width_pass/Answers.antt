use mathlib.Core.Path.{sym}
use native.Mathlib.Omega.{arith}
use Rattle.walks.proofs.Given.{facts}
use Rattle.probing.proofs.OnePage.{kids_given, passed-known, passed-below}
use borrow.Author.Rules.{rules}
use Rattle.probing.proofs.width_pass.Goals as goal

pub at-r-requires : goal.at-r-requires
at-r-requires c = let f = facts _ _ _ _ _ _ _ c.requires in (f.words_some, f.reach)

pub clear_probes-requires : goal.clear_probes-requires
clear_probes-requires c = let f = facts _ _ _ _ _ _ _ c.requires in f.whole

pub clear_first-requires : goal.clear_first-requires
clear_first-requires c = let f = facts _ _ _ _ _ _ _ c.requires in f.room

pub slice_bounds-determine_content_based_container_width-count : goal.slice_bounds-determine_content_based_container_width-count
slice_bounds-determine_content_based_container_width-count c = let f = facts _ _ _ _ _ _ _ c.requires in omega arith

pub slice_bounds-determine_content_based_container_width-start : goal.slice_bounds-determine_content_based_container_width-start
slice_bounds-determine_content_based_container_width-start c = let f = facts _ _ _ _ _ _ _ c.requires in omega arith

pub slice_bounds-determine_content_based_container_width-end : goal.slice_bounds-determine_content_based_container_width-end
slice_bounds-determine_content_based_container_width-end c = let f = facts _ _ _ _ _ _ _ c.requires in omega arith

pub slice_bounds-determine_content_based_container_width-count-in-None : goal.slice_bounds-determine_content_based_container_width-count-in-None
slice_bounds-determine_content_based_container_width-count-in-None c = let f = facts _ _ _ _ _ _ _ c.requires in omega arith

pub slice_bounds-determine_content_based_container_width-start-in-None : goal.slice_bounds-determine_content_based_container_width-start-in-None
slice_bounds-determine_content_based_container_width-start-in-None c = let f = facts _ _ _ _ _ _ _ c.requires in omega arith

pub slice_bounds-determine_content_based_container_width-end-in-None : goal.slice_bounds-determine_content_based_container_width-end-in-None
slice_bounds-determine_content_based_container_width-end-in-None c = let f = facts _ _ _ _ _ _ _ c.requires in omega arith

pub slice_bounds-determine_content_based_container_width-count-in-None-2 : goal.slice_bounds-determine_content_based_container_width-count-in-None-2
slice_bounds-determine_content_based_container_width-count-in-None-2 c = let f = facts _ _ _ _ _ _ _ c.requires in omega arith

pub slice_bounds-determine_content_based_container_width-start-in-None-2 : goal.slice_bounds-determine_content_based_container_width-start-in-None-2
slice_bounds-determine_content_based_container_width-start-in-None-2 c = let f = facts _ _ _ _ _ _ _ c.requires in omega arith

pub slice_bounds-determine_content_based_container_width-end-in-None-2 : goal.slice_bounds-determine_content_based_container_width-end-in-None-2
slice_bounds-determine_content_based_container_width-end-in-None-2 c = let f = facts _ _ _ _ _ _ _ c.requires in omega arith

pub determine_content_based_container_width-most-requires : goal.determine_content_based_container_width-most-requires
determine_content_based_container_width-most-requires c = kids_given c.args.words.now c.args.numbers.now c.args.rows.now c.args.marks.now c.args.edits.now _ _ c.requires c.clear_first.ensures

pub shape_of-rows-in-Some : goal.shape_of-rows-in-Some
shape_of-rows-in-Some c = let f = facts _ _ _ _ _ _ _ c.requires in omega arith

pub shape_of-marks-in-Some : goal.shape_of-marks-in-Some
shape_of-marks-in-Some c = let f = facts _ _ _ _ _ _ _ c.requires in omega arith

pub returns-in-Some : goal.returns-in-Some
returns-in-Some c = passed-known c.args.words.now c.args.numbers.now c.args.rows.now c.args.marks.now c.args.edits.now c.args.q _ _ _ c.at-r.ensures.style c.sizing_without_height_basis-z.ensures (c.known_dimensions-known.ensures _ (sym c.ratio.ensures)) _ _ _ c.in-Some.is c.clear_probes.ensures

pub shape_of-rows-in-None : goal.shape_of-rows-in-None
shape_of-rows-in-None c = let f = facts _ _ _ _ _ _ _ c.requires in omega arith

pub shape_of-marks-in-None : goal.shape_of-marks-in-None
shape_of-marks-in-None c = let f = facts _ _ _ _ _ _ _ c.requires in omega arith

pub returns-in-None : goal.returns-in-None
returns-in-None c = passed-below c.args.words.now c.args.numbers.now c.args.rows.now c.args.marks.now c.args.edits.now c.args.q _ _ _ c.at-r.ensures.style c.sizing_without_height_basis-z.ensures (c.known_dimensions-known.ensures _ (sym c.ratio.ensures)) _ _ _ _ _ _ _ c.in-None.is c.clear_first.ensures c.available_inside-inside.ensures c.determine_content_based_container_width-most.ensures c.width_from.ensures
