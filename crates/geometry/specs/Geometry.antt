-- Sums over a rectangle's sides: left + right, top + bottom, and side by side.
use Rattle.std.specs.Prelude.{Float}
use Rattle.std.specs.Float.Ieee.{of_bits}
use Rattle.std.specs.Float.{binary32}
use Rattle.geometry.specs.Floats.{◌⊕◌}
use Rattle.geometry.specs.declared.Size.{Size}
use Rattle.geometry.specs.declared.Rect.{Rect}

-- the literal 0.0
abbrev pub zero_f : Float
zero_f = of_bits binary32 0

-- left + right
abbrev pub across : Rect Float → Float
across r = r.left ⊕ r.right

-- top + bottom
abbrev pub down : Rect Float → Float
down r = r.top ⊕ r.bottom

-- both sums
unfoldable pub sum_axes : Rect Float → Size Float
sum_axes r = record { width = across r; height = down r }

-- side by side
unfoldable pub plus : Rect Float → Rect Float → Rect Float
plus a b =
    record {
      top = a.top ⊕ b.top;
      right = a.right ⊕ b.right;
      bottom = a.bottom ⊕ b.bottom;
      left = a.left ⊕ b.left;
    }
