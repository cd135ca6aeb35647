-- Steps A, B, D and E: a box's own numbers.
--   A  padding, border and sizes resolved; ratio; content-box      box_size, sized_by; whole: sizing_of; without height basis: step_a
--   B  asked, else min where max <= min, else clamped; floored     decided, known_axis; whole: step_b
--   D  ratio fills a missing axis, clamped                         filled; whole: step_d
--   A, B and D of the known sizes                                  known_of
--   E  insets                                                      bar_of, gutter, insets
--   E  children's numbers: without basis in F (step_a, Width), against inner width in J (itemOf, Stack)
use Rattle.std.specs.Option.{option_or}
use Rattle.length.specs.declared.Length.{Length}
use Rattle.std.specs.Prelude.{Bool, true, false, cond, Float, Option, None, Some}
use Rattle.std.specs.Float.Ieee.{le}
use Rattle.geometry.specs.Geometry.{zero_f, across, down, sum_axes, plus}
use Rattle.geometry.specs.declared.Rect.{Rect}
use Rattle.geometry.specs.declared.Size.{Size}
use Rattle.util.specs.Maybe.{clamp_opt, floor_opt, ratio_fills, add_size}
use Rattle.length.specs.Length.{resolved_rect, resolved_size}
use Rattle.style.specs.declared.Overflow.{Overflow}
use Rattle.style.specs.declared.Overflow.TheVariants.{Visible, Clip, Hidden, Scroll}
use Rattle.style.specs.declared.Style.{Style}
use Rattle.steps.specs.declared.Sizing.{Sizing}

-- A: a size against the parent width and the height basis; ratio, then add padding+border if content-box
unfoldable pub box_size : Style → Size Length → Option Float → Option Float → Rect Float → Size (Option Float)
box_size s l basis height both =
    let size = ratio_fills (resolved_size l basis height) s.ratio in
    cond s.content (add_size size (sum_axes both)) size

-- A with padding and border at hand
unfoldable pub sized_by : Style → Option Float → Option Float → Rect Float → Rect Float → Rect Float → Sizing
sized_by s basis height padding border both =
    record {
      padding = padding;
      border = border;
      both = both;
      size = box_size s s.size basis height both;
      min = box_size s s.min basis height both;
      max = box_size s s.max basis height both;
    }

-- A: resolve padding, border, sizes
unfoldable pub sizing_of : Style → Option Float → Option Float → Sizing
sizing_of s basis height =
    let padding = resolved_rect s.padding basis in
    let border = resolved_rect s.border basis in
    sized_by s basis height padding border (plus padding border)

-- A of the root and of a probed box: no height has a basis
unfoldable pub step_a : Style → Option Float → Sizing
step_a s basis = sizing_of s basis None

-- B: min where max <= min
unfoldable pub decided : Option Float → Option Float → Option Float
decided None hi = None
decided (Some lo) None = None
decided (Some lo) (Some hi) = cond (le hi lo) (Some lo) None

-- B, one axis: asked size, else min where max <= min, else clamped style size; then larger with padding+border
unfoldable pub known_axis : Option Float → Option Float → Option Float → Option Float → Float → Option Float
known_axis asked size lo hi pb = floor_opt (option_or asked (option_or (decided lo hi) (clamp_opt size lo hi))) pb

unfoldable pub step_b : Sizing → Size (Option Float) → Size (Option Float)
step_b z asked =
    record {
      width = known_axis asked.width z.size.width z.min.width z.max.width (across z.both);
      height = known_axis asked.height z.size.height z.min.height z.max.height (down z.both);
    }

-- D: an axis that was missing, clamped
unfoldable pub filled : Sizing → Size (Option Float) → Size (Option Float) → Size (Option Float)
filled z known f =
    record {
      width = option_or known.width (clamp_opt f.width z.min.width z.max.width);
      height = option_or known.height (clamp_opt f.height z.min.height z.max.height);
    }

-- D: ratio fills a missing axis, clamped
unfoldable pub step_d : Style → Sizing → Size (Option Float) → Size (Option Float)
step_d s z known = filled z known (ratio_fills known s.ratio)

-- the known sizes after A, B and D
unfoldable pub known_of : Style → Sizing → Size (Option Float) → Size (Option Float)
known_of s z asked = step_d s z (step_b z asked)

-- E: a scrollbar's place, where that axis scrolls
unfoldable pub bar_of : Overflow → Float → Float
bar_of Visible x = zero_f
bar_of Clip x = zero_f
bar_of Hidden x = zero_f
bar_of Scroll x = x

-- E: overflow y scroll takes the scrollbar right (left in RTL), x takes it at the bottom
unfoldable pub gutter : Style → Rect Float
gutter s =
    record {
      top = zero_f;
      right = cond s.rtl zero_f (bar_of s.overflow.y s.scrollbar);
      bottom = bar_of s.overflow.x s.scrollbar;
      left = cond s.rtl (bar_of s.overflow.y s.scrollbar) zero_f;
    }

-- E: insets are padding+border plus gutter
unfoldable pub insets : Style → Rect Float → Rect Float
insets s both = plus both (gutter s)
