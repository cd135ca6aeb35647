-- Step I: which edges adjoin. A container's frame.
--   H  is gone: it resolved padding and border again, which gave A's (laws/specs/StepH.antt)
--   I  new context, plain block                                    new_context, plain_block (Context)
--   I  an edge adjoins                                             adjoins; own start: adjoins; own end: own_end_of
--   I  a child's two flags                                         child_input (Stack)
-- I, whole: step_i. A, B, D, E and I of a container, whole: frame_of.
use Rattle.geometry.specs.declared.Size.{Size}
use Rattle.std.specs.Prelude.{Bool, not, ◌&&◌, Float, Option, is_some, unwrap_or}
use Rattle.std.specs.Float.Ieee.{eq}
use Rattle.geometry.specs.Geometry.{zero_f, down}
use Rattle.style.specs.declared.Style.{Style}
use Rattle.steps.specs.Sizing.{sizing_of, known_of, insets}
use Rattle.steps.specs.HeightBasis.{basis_below}
use Rattle.steps.specs.Context.{plain_block}
use Rattle.steps.specs.Through.{hollow_box}
use Rattle.steps.specs.declared.LayoutInput.{LayoutInput}
use Rattle.steps.specs.declared.Sizing.{Sizing}
use Rattle.steps.specs.declared.Frame.{Frame}

-- I: an edge adjoins if its flag is set, no new context, not out of flow, and padding and border there equal 0
unfoldable pub adjoins : Style → Bool → Float → Float → Bool
adjoins s flag padding border = flag && (plain_block s && (eq padding zero_f && eq border zero_f))

-- I: own end = end adjoins and A gave no height
unfoldable pub own_end_of : Style → Bool → Float → Float → Option Float → Bool
own_end_of s flag padding border height = adjoins s flag padding border && not (is_some height)

-- I, with A's padding and border
unfoldable pub step_i : Style → LayoutInput → Sizing → Size (Option Float) → Float → Frame
step_i s q z known width =
    record {
      width = width;
      height = known.height;
      inset = insets s z.both;
      floor = down z.both;
      minHeight = z.min.height;
      maxHeight = z.max.height;
      heightBasis = basis_below q known (insets s z.both);
      ownStart = adjoins s q.collapseStart z.padding.top z.border.top;
      ownEnd = own_end_of s q.collapseEnd z.padding.bottom z.border.bottom z.size.height;
      hollow = hollow_box s q.nested z.padding z.border;
      rtl = s.rtl;
    }

-- A, B, D, E and I. `found` is what step F found: only a page's root can lack a width here.
unfoldable pub frame_of : Style → LayoutInput → Float → Frame
frame_of s q found =
    let z = sizing_of s q.parent q.basis in
    let known = known_of s z q.known in
    step_i s q z known (unwrap_or known.width found)
