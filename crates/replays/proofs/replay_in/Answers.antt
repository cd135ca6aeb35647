use native.Mathlib.Omega.{arith}
use mathlib.Core.Path.{◌∙◌, ap}
use Prim.Native.Nat.{◌*◌}
use lib.ListN.{drop}
use Rattle.geometry.specs.Geometry.{zero_f}
use Rattle.text.specs.Pieces.{lines_of}
use Rattle.print.specs.Pen.{pen, put_all}
use Rattle.pages.proofs.PageText.{cut_long, long}
use Rattle.trace.specs.Event.{events_of}
use Rattle.day.specs.Day.{Day}
use Rattle.replays.specs.Output.{fields, day_text}
use Rattle.replays.proofs.Start.{start_is}
use Rattle.replays.proofs.replay_in.Goals as goal

pub slice_bounds-replay_cut-end-2 : goal.slice_bounds-replay_cut-end-2
slice_bounds-replay_cut-end-2 c = let a = c.args in cut_long (4 * a.h.count) a.words.now c.requires.fits.words_long

pub slice_bounds-replay_cut-end-4 : goal.slice_bounds-replay_cut-end-4
slice_bounds-replay_cut-end-4 c = let a = c.args in cut_long (fields * a.h.count) a.numbers.now c.requires.fits.numbers_long

pub slice_bounds-replay_cut-end-5 : goal.slice_bounds-replay_cut-end-5
slice_bounds-replay_cut-end-5 c = let a = c.args in omega (arith, c.requires.fits.few, long 8192 zero_f a.rows.now c.requires.lent.rows_zero)

pub slice_bounds-replay_cut-end-6 : goal.slice_bounds-replay_cut-end-6
slice_bounds-replay_cut-end-6 c = let a = c.args in cut_long (16 * a.h.count) a.rows.now (omega (arith, c.requires.fits.few, long 8192 zero_f a.rows.now c.requires.lent.rows_zero))

pub slice_bounds-replay_cut-end-7 : goal.slice_bounds-replay_cut-end-7
slice_bounds-replay_cut-end-7 c = let a = c.args in omega (arith, c.requires.fits.few, long 1024 0 a.marks.now c.requires.lent.marks_zero)

pub slice_bounds-replay_cut-end-8 : goal.slice_bounds-replay_cut-end-8
slice_bounds-replay_cut-end-8 c = let a = c.args in cut_long (2 * a.h.count) a.marks.now (omega (arith, c.requires.fits.few, long 1024 0 a.marks.now c.requires.lent.marks_zero))

pub slice_bounds-replay_cut-end-9 : goal.slice_bounds-replay_cut-end-9
slice_bounds-replay_cut-end-9 c = let a = c.args in omega (arith, c.requires.fits.few, long 1024 0 a.pairs.now c.requires.lent.pairs_zero)

pub slice_bounds-replay_cut-end-10 : goal.slice_bounds-replay_cut-end-10
slice_bounds-replay_cut-end-10 c = let a = c.args in cut_long (2 * a.h.count) a.pairs.now (omega (arith, c.requires.fits.few, long 1024 0 a.pairs.now c.requires.lent.pairs_zero))

pub slice_bounds-replay_cut-end-11 : goal.slice_bounds-replay_cut-end-11
slice_bounds-replay_cut-end-11 c = let a = c.args in omega (arith, c.requires.fits.few, long 1536 zero_f a.triples.now c.requires.lent.triples_zero)

pub slice_bounds-replay_cut-end-12 : goal.slice_bounds-replay_cut-end-12
slice_bounds-replay_cut-end-12 c = let a = c.args in cut_long (3 * a.h.count) a.triples.now (omega (arith, c.requires.fits.few, long 1536 zero_f a.triples.now c.requires.lent.triples_zero))

pub returns : goal.returns
returns c = let a = c.args in
    let n = a.h.count in
    c.replay_cut.ensures ∙ ap (λ (d : Day). put_all (day_text n (events_of n (drop 1 (lines_of a.lines.now))) d) (pen a.out.now 0)) (start_is a.h a.words.now a.numbers.now a.rows.now a.marks.now a.pairs.now a.triples.now a.list.now c.requires.fits.few c.requires.lent)
