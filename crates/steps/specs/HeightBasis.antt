-- Percent heights (request 1; CSS 2.2 10.5): what a fraction of a height is a part of. Without a basis a fraction reads as auto.
--   which known height is definite                                 definite_of
--   a container's definite height less insets, for its children    basis_below
-- A question hands the basis on (child_input, Stack); the root's has none (root_input, Question), nor has a probe (step_a, Sizing).
use Rattle.geometry.specs.declared.Size.{Size}
use Rattle.std.specs.Prelude.{cond, not, ◌&&◌, Option, None, is_some, Float}
use Rattle.geometry.specs.Geometry.{down}
use Rattle.geometry.specs.declared.Rect.{Rect}
use Rattle.util.specs.Maybe.{sub_opt}
use Rattle.steps.specs.declared.LayoutInput.{LayoutInput}

-- A known height after D is definite (pixels, a fraction with a basis, a min that decides, a ratio), but for one that the question asks and does not call definite.
unfoldable pub definite_of : LayoutInput → Option Float → Option Float
definite_of q height = cond (is_some q.known.height && not q.definiteHeight) None height

-- the children's basis: the definite height less insets, not floored
unfoldable pub basis_below : LayoutInput → Size (Option Float) → Rect Float → Option Float
basis_below q known inset = sub_opt (definite_of q known.height) (down inset)
