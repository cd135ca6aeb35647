-- Step I, of a style alone: a new context, and a plain block.
use Rattle.std.specs.Prelude.{Bool, true, false, not, ◌&&◌, ◌||◌}
use Rattle.style.specs.Flow.{flow_of, is_in, is_leaf}
use Rattle.style.specs.declared.Overflow.{Overflow}
use Rattle.style.specs.declared.Overflow.TheVariants.{Visible, Clip, Hidden, Scroll}
use Rattle.style.specs.declared.AlignContent.{AlignContent}
use Rattle.style.specs.declared.AlignContent.TheVariants.{Normal, Start, Center, End, SpaceBetween, SpaceAround, SpaceEvenly, Stretch}
use Rattle.style.specs.declared.Style.{Style}

unfoldable pub clips : Overflow → Bool
clips Visible = false
clips Clip = false
clips Hidden = true
clips Scroll = true

-- a word that acts as start is not normal
unfoldable pub is_normal : AlignContent → Bool
is_normal Normal = true
is_normal Start = false
is_normal Center = false
is_normal End = false
is_normal SpaceBetween = false
is_normal SpaceAround = false
is_normal SpaceEvenly = false
is_normal Stretch = false

-- new context: overflow hidden or scroll, align not normal, or contained
unfoldable pub new_context : Style → Bool
new_context s = clips s.overflow.x || (clips s.overflow.y || (not (is_normal s.align) || s.contained))

-- an in-flow block without new context
unfoldable pub plain_block : Style → Bool
plain_block s = is_in (flow_of s) && (not (is_leaf s.kind) && not (new_context s))
