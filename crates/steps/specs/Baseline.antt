-- The first baseline (request 11): a leaf brings its own (baseline_of, style), a block takes one from below.
--   of the first in-flow child that has one: place y of J plus its baseline    baseline_past (with place_y: stepped, Stack)
--   the shift where M adds one                                                 shifted
--   containment suppresses it                                                  whole: block_baseline
use Rattle.std.specs.Option.{option_or}
use Rattle.std.specs.Prelude.{cond, Float, Option, None, Some}
use Rattle.geometry.specs.Floats.{◌⊕◌}
use Rattle.util.specs.Maybe.{add_opt}
use Rattle.style.specs.declared.Style.{Style}

-- a child's baseline from the top of its container, the child standing at y
unfoldable pub at_place : Float → Option Float → Option Float
at_place y None = None
at_place y (Some b) = Some (y ⊕ b)

-- the first one: what was found before, else that of the child at y
unfoldable pub baseline_past : Option Float → Float → Option Float → Option Float
baseline_past before y b = option_or before (at_place y b)

-- M moves it as it moves places
unfoldable pub shifted : Option Float → Option Float → Option Float
shifted b None = b
shifted b (Some d) = add_opt b d

-- a container's own, of the first one found in its stack and the shift
unfoldable pub block_baseline : Style → Option Float → Option Float → Option Float
block_baseline s b shift = cond s.contained None (shifted b shift)
