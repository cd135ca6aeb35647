-- A margin set is a pair: the largest positive and the smallest negative, each 0 if there is none.
use Rattle.std.specs.Prelude.{Float}
use Rattle.geometry.specs.Floats.{◌⊕◌}
use Rattle.geometry.specs.Geometry.{zero_f}
use Rattle.util.specs.Math.{larger, smaller}
use Rattle.margin.specs.declared.CollapsibleMarginSet.{CollapsibleMarginSet}

unfoldable pub no_margins : CollapsibleMarginSet
no_margins = record { positive = zero_f; negative = zero_f }

-- one margin as a set
unfoldable pub set_of : Float → CollapsibleMarginSet
set_of m = record { positive = larger zero_f m; negative = smaller zero_f m }

-- joining takes larger and smaller
unfoldable pub joined : CollapsibleMarginSet → CollapsibleMarginSet → CollapsibleMarginSet
joined a b = record { positive = larger a.positive b.positive; negative = smaller a.negative b.negative }

-- a set joined with one more margin
unfoldable pub joined_with : CollapsibleMarginSet → Float → CollapsibleMarginSet
joined_with a m = joined a (set_of m)

-- positive + negative
unfoldable pub sum_of : CollapsibleMarginSet → Float
sum_of a = a.positive ⊕ a.negative
