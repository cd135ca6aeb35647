-- That a sum with what is not below 0 is not less wants a number of the format: 2^24 + 1 is none of 32 bits, and 0 added to it gives less. Computed.
use Rattle.std.specs.Prelude.{◌≡◌, refl, true, false, pos}
use Rattle.std.specs.Float.{fin, binary32}
use Rattle.std.specs.Float.Ieee.{lt, add, of_bits}
use Rattle.geometry.specs.Geometry.{zero_f}

pub unfit : lt (add binary32 (fin false 16777217 (pos 0)) zero_f) (fin false 16777217 (pos 0)) ≡ true
unfolding lt add of_bits
unfit = refl
