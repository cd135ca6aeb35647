-- Step F: what an unknown width wants of each child, and what it makes of their widths. A leaf's width.
--   a child's margins, against the definite width                  side_margins
--   larger(clamped width, its padding+border) + margins            outer_of, outer_width
--   a child without width is probed: what is asked of it           want_by, want_sized, want_in; one child: want_of
--   then add insets, clamp, larger with padding+border             content_width
--   a leaf's table                                                 leaf_width
-- F, whole: probe_f and found_width (Probe), one child after the other, and into the probed ones.
use Rattle.std.specs.Prelude.{Float, Option, None, Some}
use Rattle.geometry.specs.Floats.{◌⊕◌}
use Rattle.geometry.specs.Geometry.{across}
use Rattle.geometry.specs.declared.Rect.{Rect}
use Rattle.util.specs.Math.{larger, clamped}
use Rattle.util.specs.Maybe.{clamp_opt}
use Rattle.length.specs.Length.{resolved_or_zero}
use Rattle.length.specs.Available.{available_less, definite}
use Rattle.length.specs.declared.AvailableSpace.{AvailableSpace}
use Rattle.length.specs.declared.AvailableSpace.TheVariants.{Definite, MinContent, MaxContent}
use Rattle.style.specs.Flow.{flow_of}
use Rattle.style.specs.declared.Measure.{Measure}
use Rattle.style.specs.declared.Style.{Style}
use Rattle.steps.specs.Sizing.{step_a}
use Rattle.steps.specs.declared.Sizing.{Sizing}
use Rattle.steps.specs.declared.ProbeInput.{ProbeInput}
use Rattle.style.specs.declared.Flow.{Flow}
use Rattle.style.specs.declared.Flow.TheVariants.{Gone, Out, In}
use Rattle.steps.specs.declared.Want.{Want}
use Rattle.steps.specs.declared.Want.TheVariants.{Nothing, Outer, Probe}

-- F: side margins against the definite width, else no basis
unfoldable pub side_margins : Style → Option Float → Float
side_margins s basis = resolved_or_zero s.margin.left basis ⊕ resolved_or_zero s.margin.right basis

-- F: larger(width, its padding+border) + margins
unfoldable pub outer_of : Sizing → Float → Float → Float
outer_of z margins width = larger width (across z.both) ⊕ margins

-- F, of a child asked at an available width, once its width is found
unfoldable pub outer_width : Style → AvailableSpace → Float → Float
outer_width s a width = outer_of (step_a s None) (side_margins s (definite a)) width

-- F: a child with a width gives it, clamped; one without is probed with its clamped height, at the available width less margins
unfoldable pub want_by : Sizing → Float → AvailableSpace → Option Float → Want
want_by z margins a None = Probe (record { height = clamp_opt z.size.height z.min.height z.max.height; available = available_less a margins })
want_by z margins a (Some w) = Outer (outer_of z margins w)

unfoldable pub want_sized : Sizing → Float → AvailableSpace → Want
want_sized z margins a = want_by z margins a (clamp_opt z.size.width z.min.width z.max.width)

unfoldable pub want_in : Flow → Style → AvailableSpace → Want
want_in Gone s a = Nothing
want_in Out s a = Nothing
want_in In s a = want_sized (step_a s None) (side_margins s (definite a)) a

-- F: hidden and out-of-flow children give nothing
unfoldable pub want_of : Style → AvailableSpace → Want
want_of s a = want_in (flow_of s) s a

-- F: then add insets, clamp, larger with padding+border
unfoldable pub content_width : Sizing → Rect Float → Float → Float
content_width z inset most = larger (clamped (most ⊕ across inset) z.min.width z.max.width) (across z.both)

-- a leaf's table: min, max, or clamp of the definite width
unfoldable pub leaf_width : Measure → AvailableSpace → Float
leaf_width m (Definite a) = clamped a (Some m.least) (Some m.most)
leaf_width m MinContent = m.least
leaf_width m MaxContent = m.most
