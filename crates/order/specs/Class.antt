-- The pages whose rows keep their order: what is asked of the style of every node.
use Rattle.geometry.specs.declared.Rect.{Rect}
use Rattle.std.specs.Prelude.{Bool, true, false, not, ◌&&◌, List, ℕ, Float}
use Rattle.std.specs.Float.Ieee.{lt}
use Rattle.geometry.specs.Geometry.{zero_f}
use Rattle.length.specs.declared.Length.{Length}
use Rattle.length.specs.declared.Length.TheVariants.{Auto, Pixels, Fraction}
use Rattle.style.specs.Style.{style_at}
use Rattle.style.specs.declared.Position.{Position}
use Rattle.style.specs.declared.Position.TheVariants.{Static, Relative, Absolute}
use Rattle.style.specs.declared.AlignContent.{AlignContent}
use Rattle.style.specs.declared.AlignContent.TheVariants.{Normal, Start, Center, End, SpaceBetween, SpaceAround, SpaceEvenly, Stretch}
use Rattle.style.specs.declared.Style.{Style}
use Rattle.steps.specs.Scan.{some}
use Rattle.steps.specs.Page.{nodes_in}

-- a margin: auto, or pixels not below 0
unfoldable pub fair : Length → Bool
fair Auto = true
fair (Pixels x) = not (lt x zero_f)
fair (Fraction x) = false

-- a padding or a border: auto or pixels
unfoldable pub whole : Length → Bool
whole Auto = true
whole (Pixels x) = true
whole (Fraction x) = false

-- not relative
unfoldable pub still : Position → Bool
still Static = true
still Relative = false
still Absolute = true

-- normal and start, and the words that act as start
unfoldable pub unshifted : AlignContent → Bool
unshifted Normal = true
unshifted Start = true
unshifted Center = false
unshifted End = false
unshifted SpaceBetween = true
unshifted SpaceAround = false
unshifted SpaceEvenly = false
unshifted Stretch = true

-- of the top and of the bottom
unfoldable pub fair_down : Rect Length → Bool
fair_down r = fair r.top && fair r.bottom

unfoldable pub whole_down : Rect Length → Bool
whole_down r = whole r.top && whole r.bottom

-- all of it, of one node
unfoldable pub steady : Style → Bool
steady s = fair_down s.margin && (whole_down s.padding && (whole_down s.border && (still s.position && unshifted s.align)))

-- node i is not such
unfoldable pub unsteady : List ℕ → List Float → ℕ → Bool
unsteady ws xs i = not (steady (style_at ws i xs i))

-- every node is
unfoldable pub keeps_order : List ℕ → List Float → Bool
keeps_order ws xs = not (some (unsteady ws xs) (nodes_in ws))
