-- The shift of step M: an align word with its safety, over the free space.
use Rattle.std.specs.Prelude.{Bool, true, cond, ◌&&◌, Float, Option, None, Some}
use Rattle.std.specs.Float.Ieee.{of_bits, lt}
use Rattle.std.specs.Float.{binary32}
use Rattle.geometry.specs.Geometry.{zero_f}
use Rattle.geometry.specs.Floats.{◌⊘◌}
use Rattle.style.specs.declared.AlignContent.{AlignContent}
use Rattle.style.specs.declared.AlignContent.TheVariants.{Normal, Start, Center, End, SpaceBetween, SpaceAround, SpaceEvenly, Stretch}

-- the literal 2.0
abbrev pub two_f : Float
two_f = of_bits binary32 0x4000_0000

-- safe: negative free space is none
unfoldable pub room_of : Bool → Float → Float
room_of safe free = cond (safe && lt free zero_f) zero_f free

-- Nothing is added for normal and start; half the free space for center, all of it for end.
-- The stack is one subject: space-between and stretch act as start, space-around and space-evenly as safe center.
unfoldable pub align_shift : AlignContent → Bool → Float → Option Float
align_shift Normal safe free = None
align_shift Start safe free = None
align_shift Center safe free = Some (room_of safe free ⊘ two_f)
align_shift End safe free = Some (room_of safe free)
align_shift SpaceBetween safe free = None
align_shift SpaceAround safe free = Some (room_of true free ⊘ two_f)
align_shift SpaceEvenly safe free = Some (room_of true free ⊘ two_f)
align_shift Stretch safe free = None
