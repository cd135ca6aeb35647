-- 'The arithmetic' of document 01: larger, smaller, clamp.
use Rattle.std.specs.Prelude.{Bool, cond, Float, Option, None, Some}
use Rattle.std.specs.Float.Ieee.{lt}

-- b if a < b, else a
unfoldable pub larger : Float → Float → Float
larger a b = cond (lt a b) b a

-- b if b < a, else a
unfoldable pub smaller : Float → Float → Float
smaller a b = cond (lt b a) b a

-- smaller with a maximum that may be missing
unfoldable pub capped : Float → Option Float → Float
capped x None = x
capped x (Some m) = smaller x m

-- larger with a minimum that may be missing
unfoldable pub floored : Float → Option Float → Float
floored x None = x
floored x (Some m) = larger x m

-- clamp: smaller with max, then larger with min
unfoldable pub clamped : Float → Option Float → Option Float → Float
clamped x lo hi = floored (capped x hi) lo
