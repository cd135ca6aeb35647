-- Step N: which boxes margins go through, and the sets that a box passes out. With it K to N together, and a leaf's answer.
--   below the root, in-flow block without new context, open        open_box, hollow_box
--   height 0, every shown child through or out of flow             whole: step_n
--   sets not passed out hold the own margin alone                  passed_out
--   a container's answer, with its baseline, and its shift                            output_of; K to N, whole: finished
--   a leaf takes known sizes, else its table                       leaf_output
use Rattle.std.specs.Prelude.{Bool, false, cond, not, ◌&&◌, Float, Option, unwrap_or}
use Rattle.std.specs.Float.Ieee.{lt, eq}
use Rattle.geometry.specs.Geometry.{zero_f}
use Rattle.geometry.specs.declared.Rect.{Rect}
use Rattle.length.specs.Length.{resolved_or_zero}
use Rattle.style.specs.declared.Measure.{Measure}
use Rattle.style.specs.declared.Style.{Style}
use Rattle.margin.specs.Margin.{no_margins, set_of}
use Rattle.margin.specs.declared.CollapsibleMarginSet.{CollapsibleMarginSet}
use Rattle.steps.specs.Context.{plain_block}
use Rattle.steps.specs.Width.{leaf_width}
use Rattle.steps.specs.Baseline.{block_baseline}
use Rattle.steps.specs.Height.{step_k, step_l, step_m, still_own_end}
use Rattle.steps.specs.declared.LayoutInput.{LayoutInput}
use Rattle.steps.specs.declared.LayoutOutput.{LayoutOutput}
use Rattle.steps.specs.declared.Frame.{Frame}
use Rattle.steps.specs.declared.Cursor.{Cursor}
use Rattle.steps.specs.declared.Finished.{Finished}

-- four vertical paddings and borders not above 0
unfoldable pub open_box : Rect Float → Rect Float → Bool
open_box padding border = not (lt zero_f padding.top) && (not (lt zero_f padding.bottom) && (not (lt zero_f border.top) && not (lt zero_f border.bottom)))

-- what the box alone decides: below the root, in-flow block without new context, open
unfoldable pub hollow_box : Style → Bool → Rect Float → Rect Float → Bool
hollow_box s nested padding border = nested && (plain_block s && open_box padding border)

-- a hollow box of height 0 whose every shown child is through or out of flow
unfoldable pub step_n : Frame → Cursor → Float → Bool
step_n f c height = f.hollow && (eq height zero_f && c.allThrough)

-- a set that is not passed out holds the own margin alone
unfoldable pub passed_out : Bool → CollapsibleMarginSet → Float → CollapsibleMarginSet
passed_out passed set own = cond passed set (set_of own)

unfoldable pub output_of : Style → LayoutInput → Frame → Cursor → Float → Option Float → LayoutOutput
output_of s q f c height shift =
    record {
      size = record { width = f.width; height = height };
      top = passed_out f.ownStart c.top (resolved_or_zero s.margin.top q.parent);
      bottom = passed_out (still_own_end f height) c.strut (resolved_or_zero s.margin.bottom q.parent);
      through = step_n f c height;
      baseline = block_baseline s c.baseline shift;
    }

-- K to N of a container whose children are stacked
unfoldable pub finished : Style → LayoutInput → Frame → Cursor → Finished
finished s q f c =
    let content = step_k f c in
    let height = step_l f content in
    let shift = step_m s f height content in
    record { output = output_of s q f c height shift; shift = shift }

-- a leaf takes known sizes, else its table; empty sets, never through; its baseline as it is
unfoldable pub leaf_output : Measure → LayoutInput → LayoutOutput
leaf_output m q =
    record {
      size = record { width = unwrap_or q.known.width (leaf_width m q.available); height = unwrap_or q.known.height m.height };
      top = no_margins;
      bottom = no_margins;
      through = false;
      baseline = m.baseline;
    }
