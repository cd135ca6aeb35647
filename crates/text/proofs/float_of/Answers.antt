use mathlib.Core.Path.{sym, subst, ◌∙◌}
use mathlib.Core.Bool.{Bool, not}
use lib.Dec.{T}
use lib.Ieee.{binary32, of_bits, div}
use lib.Ieee.Bits.{nan_bits_above}
use borrow.Author.Tests.{lt-ltb, le-ltb}
use Rattle.text.specs.Values.{float_of}
use Rattle.text.proofs.float_of.Goals as goal

pub returns-then-w-gt2139095040 : goal.returns-then-w-gt2139095040
unfolding float_of of_bits div
returns-then-w-gt2139095040 c = rw (nan_bits_above, lt-ltb _ _ c.if-w-gt2139095040.true)

pub float_from_bits-result : goal.float_from_bits-result
float_from_bits-result c = subst (λ (b : Bool). T (not b)) (sym (nan_bits_above binary32 _ ∙ le-ltb _ _ c.if-w-gt2139095040.false)) tt

pub returns : goal.returns
unfolding float_of
returns c = rw (nan_bits_above, le-ltb _ _ c.if-w-gt2139095040.false)
