use Rattle.steps.specs.Row.{noted, probe_note}
use native.Mathlib.Omega.{arith}
use mathlib.Core.Path.{refl}
use lib.ListN.{length-set}
use Rattle.rows.proofs.Bits.{probe_bits_lem}
use Rattle.rows.specs.Store.{probed_row}
use borrow.Author.Rules.{rules}
use Rattle.rows.proofs.note_probe.Goals as goal

pub bounds-rows-12 : goal.bounds-rows-12
bounds-rows-12 c = simp length-set (omega arith)

pub bounds-rows-13 : goal.bounds-rows-13
bounds-rows-13 c = simp length-set (omega arith)

pub returns : goal.returns
unfolding probed_row noted probe_note
returns c = λ r z y er em. (rw (c.unwrap_or-2.ensures, c.unwrap_or.ensures, c.into_option.ensures, er), rw (c.probe_bits.ensures, c.is_some.ensures, em, probe_bits_lem r.bits _))
