-- The running largest bottom: it rises where the bottoms themselves need not.
use Rattle.std.specs.Prelude.{List, [], ◌∷◌, Float}
use Rattle.std.specs.Float.Ieee.{of_bits}
use Rattle.std.specs.Float.{binary32}
use Rattle.util.specs.Math.{larger}

-- the lowest finite number and the largest
abbrev pub lowest_f : Float
lowest_f = of_bits binary32 0xff7f_ffff

abbrev pub highest_f : Float
highest_f = of_bits binary32 0x7f7f_ffff

-- the largest so far at each place, m before the first
unfoldable pub running_from : Float → List Float → List Float
running_from m [] = []
running_from m (b ∷ bs) = larger m b ∷ running_from (larger m b) bs

-- from the lowest finite number on: a first bottom that is a NaN is passed over like any other
abbrev pub running_of : List Float → List Float
running_of bs = running_from lowest_f bs
