use native.Mathlib.Omega.{arith}
use lib.ListN.{length, length-take}
use Rattle.trace.proofs.Whole.{whole_trace}
use Rattle.trace.proofs.read_trace.Goals as goal

pub slice_bounds-read_text-end : goal.slice_bounds-read_text-end
slice_bounds-read_text-end c = rw (length-take c.min-end.result c.args.text.now) (omega (arith, c.min-end.ensures))

pub read_text-requires : goal.read_text-requires
read_text-requires c = rw (length-take c.min-end.result c.args.text.now) (omega (arith, c.min-end.ensures))

pub returns : goal.returns
returns c = let a = c.args in whole_trace (length a.words.now) (length a.numbers.now) a.text.now c.read_text.result _ _ c.min-end.result c.min-end.ensures c.read_text.ensures
