use native.Mathlib.Omega.{arith}
use mathlib.Core.Path.{◌∙◌, ap}
use mathlib.Core.List.{List}
use Prim.Native.Nat.{ℕ, ◌*◌}
use Rattle.print.specs.Pen.{pen, put_all}
use Rattle.pages.proofs.PageText.{cut_long, long, laid-text}
use Rattle.geometry.specs.Geometry.{zero_f}
use Rattle.pages.proofs.lay_in.Goals as goal

pub slice_bounds-lay_cut-end : goal.slice_bounds-lay_cut-end
slice_bounds-lay_cut-end c = let a = c.args in cut_long (4 * a.h.count) a.words.now c.requires.fits.words_long

pub slice_bounds-lay_cut-end-2 : goal.slice_bounds-lay_cut-end-2
slice_bounds-lay_cut-end-2 c = let a = c.args in cut_long (28 * a.h.count) a.numbers.now c.requires.fits.numbers_long

pub slice_bounds-lay_cut-end-3 : goal.slice_bounds-lay_cut-end-3
slice_bounds-lay_cut-end-3 c = let a = c.args in omega (arith, c.requires.fits.few, long 8192 zero_f a.rows.now c.requires.lent.rows_zero)

pub slice_bounds-lay_cut-end-4 : goal.slice_bounds-lay_cut-end-4
slice_bounds-lay_cut-end-4 c = let a = c.args in cut_long (16 * a.h.count) a.rows.now (omega (arith, c.requires.fits.few, long 8192 zero_f a.rows.now c.requires.lent.rows_zero))

pub slice_bounds-lay_cut-end-5 : goal.slice_bounds-lay_cut-end-5
slice_bounds-lay_cut-end-5 c = let a = c.args in omega (arith, c.requires.fits.few, long 1024 0 a.marks.now c.requires.lent.marks_zero)

pub slice_bounds-lay_cut-end-6 : goal.slice_bounds-lay_cut-end-6
slice_bounds-lay_cut-end-6 c = let a = c.args in cut_long (2 * a.h.count) a.marks.now (omega (arith, c.requires.fits.few, long 1024 0 a.marks.now c.requires.lent.marks_zero))

pub slice_bounds-lay_cut-end-7 : goal.slice_bounds-lay_cut-end-7
slice_bounds-lay_cut-end-7 c = let a = c.args in omega (arith, c.requires.fits.few, long 1024 0 a.pairs.now c.requires.lent.pairs_zero)

pub slice_bounds-lay_cut-end-8 : goal.slice_bounds-lay_cut-end-8
slice_bounds-lay_cut-end-8 c = let a = c.args in cut_long (2 * a.h.count) a.pairs.now (omega (arith, c.requires.fits.few, long 1024 0 a.pairs.now c.requires.lent.pairs_zero))

pub slice_bounds-lay_cut-end-9 : goal.slice_bounds-lay_cut-end-9
slice_bounds-lay_cut-end-9 c = let a = c.args in omega (arith, c.requires.fits.few, long 1536 zero_f a.triples.now c.requires.lent.triples_zero)

pub slice_bounds-lay_cut-end-10 : goal.slice_bounds-lay_cut-end-10
slice_bounds-lay_cut-end-10 c = let a = c.args in cut_long (3 * a.h.count) a.triples.now (omega (arith, c.requires.fits.few, long 1536 zero_f a.triples.now c.requires.lent.triples_zero))

pub returns : goal.returns
returns c = let a = c.args in
    c.lay_cut.ensures ∙ ap (λ (t : List ℕ). put_all t (pen a.out.now 0)) (laid-text a.h a.words.now a.numbers.now a.rows.now a.marks.now a.pairs.now a.triples.now c.requires.fits.few c.requires.lent)
