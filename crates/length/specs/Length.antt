-- A length is auto, a number of pixels or a fraction of a basis.
use Rattle.geometry.specs.declared.Size.{Size}
use Rattle.std.specs.Prelude.{Bool, true, false, Float, Option, None, Some}
use Rattle.geometry.specs.Floats.{◌⊗◌}
use Rattle.geometry.specs.declared.Rect.{Rect}
use Rattle.util.specs.Maybe.{or_zero}
use Rattle.length.specs.declared.Length.{Length}
use Rattle.length.specs.declared.Length.TheVariants.{Auto, Pixels, Fraction}

-- fraction times basis; no basis gives none
unfoldable pub scaled : Float → Option Float → Option Float
scaled f None = None
scaled f (Some b) = Some (f ⊗ b)

-- a size: none where it is auto or has no basis
unfoldable pub resolved : Length → Option Float → Option Float
resolved Auto b = None
resolved (Pixels x) b = Some x
resolved (Fraction f) b = scaled f b

-- a padding, border or margin: 0 where it is auto or has no basis
unfoldable pub resolved_or_zero : Length → Option Float → Float
resolved_or_zero l b = or_zero (resolved l b)

unfoldable pub is_auto : Length → Bool
is_auto Auto = true
is_auto (Pixels x) = false
is_auto (Fraction f) = false

-- four sides against one basis
unfoldable pub resolved_rect : Rect Length → Option Float → Rect Float
resolved_rect r b =
    record {
      top = resolved_or_zero r.top b;
      right = resolved_or_zero r.right b;
      bottom = resolved_or_zero r.bottom b;
      left = resolved_or_zero r.left b;
    }

-- each axis against its own basis
unfoldable pub resolved_size : Size Length → Option Float → Option Float → Size (Option Float)
resolved_size s w h = record { width = resolved s.width w; height = resolved s.height h }
