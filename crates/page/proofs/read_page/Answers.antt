use native.Mathlib.Omega.{arith}
use lib.ListN.{length, length-take}
use Rattle.page.proofs.WholeFile.{whole_page}
use Rattle.page.proofs.read_page.Goals as goal

pub slice_bounds-read_text-end : goal.slice_bounds-read_text-end
slice_bounds-read_text-end c = rw (length-take c.min-end.result c.args.text.now) (omega (arith, c.min-end.ensures))

pub read_text-requires : goal.read_text-requires
read_text-requires c = rw (length-take c.min-end.result c.args.text.now) (omega (arith, c.min-end.ensures))

pub returns : goal.returns
returns c = let a = c.args in whole_page (length a.words.now) (length a.numbers.now) a.text.now c.read_text.result c.read_text.new.words c.read_text.new.numbers c.min-end.result c.min-end.ensures c.read_text.ensures
