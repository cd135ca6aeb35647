use lib.Ieee.{of_bits, neg}
use Rattle.whole.proofs.Coarse.{pixel_in, pixel_high, pixel_low}
use Rattle.whole.proofs.is_pixel.Goals as goal

-- a literal is its bit pattern, so of_bits and neg are unfolded to meet `fin s m e`
pub returns-then-x-2 : goal.returns-then-x-2
unfolding of_bits neg
returns-then-x-2 c = pixel_in c.args.x c.if-x.true c.if-x-2.true

pub returns-else-x-2 : goal.returns-else-x-2
unfolding of_bits neg
returns-else-x-2 c = pixel_high c.args.x c.if-x.true c.if-x-2.false

pub returns-else-x : goal.returns-else-x
unfolding of_bits neg
returns-else-x c = pixel_low c.args.x c.if-x.false
