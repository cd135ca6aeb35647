-- Steps K, L and M: the height of a container whose children are stacked.
--   K  extra: the strut's sum, or 0; content height                extra_of; whole: step_k
--   L  height: known, else clamped content; floored                whole: step_l
--   L  own end is dropped if min-height > 0 and >= height          held_open, still_own_end
--   M  free space, and the shift that align makes of it            whole: step_m; each row: lowered (Row)
use Rattle.std.specs.Prelude.{Bool, true, false, cond, not, ◌&&◌, ◌||◌, Float, Option, None, Some, unwrap_or}
use Rattle.std.specs.Float.Ieee.{lt, le}
use Rattle.geometry.specs.Floats.{◌⊕◌, ◌⊖◌}
use Rattle.geometry.specs.Geometry.{zero_f, down}
use Rattle.util.specs.Math.{larger, clamped}
use Rattle.style.specs.declared.Style.{Style}
use Rattle.margin.specs.Margin.{sum_of}
use Rattle.alignment.specs.Align.{align_shift}
use Rattle.steps.specs.Stack.{at_top}
use Rattle.steps.specs.declared.Frame.{Frame}
use Rattle.steps.specs.declared.Cursor.{Cursor}

-- K: extra is the strut's sum, but 0 if own end, or still at the top with own start
unfoldable pub extra_of : Frame → Cursor → Float
extra_of f c = cond (f.ownEnd || at_top f c) zero_f (sum_of c.strut)

-- K: content height = larger(0, (y+extra)+bottom inset)
unfoldable pub step_k : Frame → Cursor → Float
step_k f c = larger zero_f ((c.y ⊕ extra_of f c) ⊕ f.inset.bottom)

-- L: known, else clamped content; then larger with padding+border
unfoldable pub step_l : Frame → Float → Float
step_l f content = larger (unwrap_or f.height (clamped content f.minHeight f.maxHeight)) f.floor

-- L: min-height > 0 and >= height
unfoldable pub held_open : Option Float → Float → Bool
held_open None height = false
held_open (Some lo) height = lt zero_f lo && le height lo

-- L: own end is dropped so
unfoldable pub still_own_end : Frame → Float → Bool
still_own_end f height = f.ownEnd && not (held_open f.minHeight height)

-- M: free = (height - insets) - (content - insets)
unfoldable pub step_m : Style → Frame → Float → Float → Option Float
step_m s f height content = align_shift s.align s.safe ((height ⊖ down f.inset) ⊖ (content ⊖ down f.inset))
