-- Numbers that may be missing.
use Rattle.std.specs.Prelude.{Float, Option, None, Some, unwrap_or}
use Rattle.std.specs.Option.{option_or}
use Rattle.geometry.specs.Floats.{◌⊕◌, ◌⊖◌, ◌⊗◌, ◌⊘◌}
use Rattle.geometry.specs.Geometry.{zero_f}
use Rattle.geometry.specs.declared.Size.{Size}
use Rattle.util.specs.Math.{larger, clamped}

-- an absent value is written as 0
abbrev pub or_zero : Option Float → Float
or_zero o = unwrap_or o zero_f

unfoldable pub add_opt : Option Float → Float → Option Float
add_opt None y = None
add_opt (Some x) y = Some (x ⊕ y)

unfoldable pub sub_opt : Option Float → Float → Option Float
sub_opt None y = None
sub_opt (Some x) y = Some (x ⊖ y)

unfoldable pub clamp_opt : Option Float → Option Float → Option Float → Option Float
clamp_opt None lo hi = None
clamp_opt (Some x) lo hi = Some (clamped x lo hi)

unfoldable pub floor_opt : Option Float → Float → Option Float
floor_opt None y = None
floor_opt (Some x) y = Some (larger x y)

-- w = h * ratio
unfoldable pub ratio_width : Option Float → Float → Option Float
ratio_width None q = None
ratio_width (Some h) q = Some (h ⊗ q)

-- h = w / ratio
unfoldable pub ratio_height : Option Float → Float → Option Float
ratio_height None q = None
ratio_height (Some w) q = Some (w ⊘ q)

-- a ratio fills one missing axis
unfoldable pub ratio_fills : Size (Option Float) → Option Float → Size (Option Float)
ratio_fills s None = s
ratio_fills s (Some q) = record { width = option_or s.width (ratio_width s.height q); height = option_or s.height (ratio_height s.width q) }

-- both axes made larger
unfoldable pub add_size : Size (Option Float) → Size Float → Size (Option Float)
add_size s d = record { width = add_opt s.width d.width; height = add_opt s.height d.height }
