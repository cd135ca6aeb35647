-- Step J, child by child: what is asked of it, where it stands, and how the stack goes on.
--   margins and side offsets against inner width, heights' numbers against the frame's basis    inner_width, item_of, relative_offset
--   known sizes clamped, larger with padding+border; parent inner  asked_width, asked_height, child_input; the question: question_to
--   T and B; gap; free; place x and y                              top_margins, bottom_margins, gap_of, free_of, share_of; place_of
--   through, or else: strut, top set, y; the first baseline         past_through, past_box; the next cursor: stepped
--   an out-of-flow child's line, start and end                     line_of, edges_of; past_aside, past_hidden
-- J, whole: lay_f (Layout), from start_of on, with place, aside and skip for the three kinds of children.
use Rattle.std.specs.Option.{option_or}
use Rattle.length.specs.declared.Length.{Length}
use Rattle.std.specs.Prelude.{Bool, true, false, cond, not, ◌&&◌, ◌+◌, ◌<◌, Float, Option, None, Some, unwrap_or}
use Rattle.std.specs.Float.Ieee.{neg}
use Rattle.geometry.specs.Floats.{◌⊕◌, ◌⊖◌, ◌⊘◌}
use Rattle.geometry.specs.Geometry.{zero_f, across, down}
use Rattle.geometry.specs.declared.Point.{Point}
use Rattle.geometry.specs.declared.Line.{Line}
use Rattle.geometry.specs.declared.Rect.{Rect}
use Rattle.util.specs.Math.{larger, clamped}
use Rattle.util.specs.Maybe.{or_zero, clamp_opt, floor_opt}
use Rattle.length.specs.Length.{resolved, resolved_rect, is_auto}
use Rattle.length.specs.declared.AvailableSpace.TheVariants.{MaxContent}
use Rattle.style.specs.declared.Position.{Position}
use Rattle.style.specs.declared.Position.TheVariants.{Static, Relative, Absolute}
use Rattle.style.specs.declared.Style.{Style}
use Rattle.margin.specs.Margin.{no_margins, joined, joined_with, sum_of}
use Rattle.margin.specs.declared.CollapsibleMarginSet.{CollapsibleMarginSet}
use Rattle.alignment.specs.Align.{two_f}
use Rattle.steps.specs.Sizing.{sizing_of}
use Rattle.steps.specs.Baseline.{baseline_past}
use Rattle.steps.specs.Context.{plain_block}
use Rattle.steps.specs.declared.LayoutInput.{LayoutInput}
use Rattle.steps.specs.declared.LayoutOutput.{LayoutOutput}
use Rattle.steps.specs.declared.Frame.{Frame}
use Rattle.steps.specs.declared.BlockItem.{BlockItem}
use Rattle.steps.specs.declared.Cursor.{Cursor}

-- inner is W less insets
unfoldable pub inner_width : Frame → Float
inner_width f = f.width ⊖ across f.inset

-- y is the top inset; the sets are empty, nothing is stacked yet
unfoldable pub start_of : Frame → Cursor
start_of f = record { y = f.inset.top; strut = no_margins; top = no_margins; first = true; allThrough = true; baseline = None; shown = record { 0 = 0 }; count = 0 }

unfoldable pub neg_opt : Option Float → Option Float
neg_opt None = None
neg_opt (Some x) = Some (neg x)

-- left else -right, in RTL -right else left
unfoldable pub offset_x : Option Float → Option Float → Bool → Float
offset_x left right rtl = cond rtl (or_zero (option_or (neg_opt right) left)) (or_zero (option_or left (neg_opt right)))

-- the offset of a relative box; y is top else -bottom, against the height basis
unfoldable pub relative_offset : Rect Length → Bool → Option Float → Option Float → Point Float
relative_offset i rtl basis height =
    record {
      x = offset_x (resolved i.left basis) (resolved i.right basis) rtl;
      y = or_zero (option_or (resolved i.top height) (neg_opt (resolved i.bottom height)));
    }

unfoldable pub offset_by : Position → Rect Length → Bool → Option Float → Option Float → Point Float
offset_by Static i rtl basis height = record { x = zero_f; y = zero_f }
offset_by Relative i rtl basis height = relative_offset i rtl basis height
offset_by Absolute i rtl basis height = record { x = zero_f; y = zero_f }

-- E's numbers again, margins and side offsets, all against inner width; an auto margin counts 0 at first
unfoldable pub item_of : Frame → Style → BlockItem
item_of f s =
    record {
      sizing = sizing_of s (Some (inner_width f)) f.heightBasis;
      margin = resolved_rect s.margin (Some (inner_width f));
      left = is_auto s.margin.left;
      right = is_auto s.margin.right;
      offset = offset_by s.position s.inset f.rtl (Some (inner_width f)) f.heightBasis;
    }

-- width = size or inner - margins, clamped, larger with padding+border
unfoldable pub asked_width : Frame → BlockItem → Float
asked_width f i =
    let width = unwrap_or i.sizing.size.width (inner_width f ⊖ across i.margin) in
    larger (clamped width i.sizing.min.width i.sizing.max.width) (across i.sizing.both)

-- a height is asked only if the size has one
unfoldable pub asked_height : BlockItem → Option Float
asked_height i = floor_opt (clamp_opt i.sizing.size.height i.sizing.min.height i.sizing.max.height) (down i.sizing.both)

-- the question put to a child: both flags true if it is an in-flow block without new context; with a width known no available width is read
unfoldable pub child_input : Frame → Style → BlockItem → LayoutInput
child_input f s i =
    record {
      known = record { width = Some (asked_width f i); height = asked_height i };
      parent = Some (inner_width f);
      basis = f.heightBasis;
      definiteHeight = true;
      available = MaxContent;
      collapseStart = plain_block s;
      collapseEnd = plain_block s;
      nested = true;
    }

-- the question put to a child with this style
unfoldable pub question_to : Frame → Style → LayoutInput
question_to f s = child_input f s (item_of f s)

-- T and B: its sets joined with its own margins
unfoldable pub top_margins : BlockItem → LayoutOutput → CollapsibleMarginSet
top_margins i o = joined_with o.top i.margin.top

unfoldable pub bottom_margins : BlockItem → LayoutOutput → CollapsibleMarginSet
bottom_margins i o = joined_with o.bottom i.margin.bottom

-- still at the top with own start
unfoldable pub at_top : Frame → Cursor → Bool
at_top f c = c.first && f.ownStart

-- gap is 0 while still at the top with own start, else the sum of strut joined T
unfoldable pub gap_of : Frame → Cursor → CollapsibleMarginSet → Float
gap_of f c t = cond (at_top f c) zero_f (sum_of (joined c.strut t))

-- free = larger(0, (inner-w)-margins)
unfoldable pub free_of : Frame → BlockItem → Float → Float
free_of f i w = larger zero_f ((inner_width f ⊖ w) ⊖ across i.margin)

-- free space to one auto margin, or half to each
unfoldable pub share_of : Bool → Bool → Float → Float → Float
share_of own other margin free = cond own (cond other (free ⊘ two_f) free) margin

-- place x: LTR (left inset+left margin)+offset; RTL (((W-right inset)-right margin)-w)+offset
unfoldable pub place_x : Frame → BlockItem → Float → Float
place_x f i w =
    let free = free_of f i w in
    let right = share_of i.right i.left i.margin.right free in
    let left = share_of i.left i.right i.margin.left free in
    cond f.rtl ((((f.width ⊖ f.inset.right) ⊖ right) ⊖ w) ⊕ i.offset.x) ((f.inset.left ⊕ left) ⊕ i.offset.x)

-- place y: (y+gap)+offset
unfoldable pub place_y : Frame → Cursor → BlockItem → LayoutOutput → Float
place_y f c i o = (c.y ⊕ gap_of f c (top_margins i o)) ⊕ i.offset.y

unfoldable pub place_of : Frame → Cursor → BlockItem → LayoutOutput → Point Float
place_of f c i o = record { x = place_x f i o.size.width; y = place_y f c i o }

-- through: strut takes T and B, and so does the top set if at the top
unfoldable pub past_through : Cursor → CollapsibleMarginSet → CollapsibleMarginSet → Option Float → Cursor
past_through c t b baseline =
    record {
      y = c.y;
      strut = joined (joined c.strut t) b;
      top = cond c.first (joined (joined c.top t) b) c.top;
      first = c.first;
      allThrough = c.allThrough;
      baseline = baseline;
      shown = record { 0 = c.shown.0 + 1 };
      count = c.count + 1;
    }

-- else: the top set takes T if at the top, y = (y+gap)+h, strut = B, no longer at the top
unfoldable pub past_box : Frame → Cursor → CollapsibleMarginSet → CollapsibleMarginSet → Float → Option Float → Cursor
past_box f c t b h baseline =
    record {
      y = (c.y ⊕ gap_of f c t) ⊕ h;
      strut = b;
      top = cond c.first (joined c.top t) c.top;
      first = false;
      allThrough = false;
      baseline = baseline;
      shown = record { 0 = c.shown.0 + 1 };
      count = c.count + 1;
    }

unfoldable pub stepped : Frame → Cursor → BlockItem → LayoutOutput → Cursor
stepped f c i o =
    let baseline = baseline_past c.baseline (place_y f c i o) o.baseline in
    cond o.through (past_through c (top_margins i o) (bottom_margins i o) baseline) (past_box f c (top_margins i o) (bottom_margins i o) o.size.height baseline)

-- out-of-flow line: y + strut's sum (0 instead while at the top with own start)
unfoldable pub line_of : Frame → Cursor → Float
line_of f c = c.y ⊕ cond (at_top f c) zero_f (sum_of c.strut)

-- start and end are the inner edges
unfoldable pub edges_of : Frame → Line
edges_of f = record { start = f.inset.left; end = f.width ⊖ f.inset.right }

-- past an out-of-flow child, which counts as shown, and past a hidden one, which does not
unfoldable pub past_aside : Cursor → Cursor
past_aside c =
    record { y = c.y; strut = c.strut; top = c.top; first = c.first; allThrough = c.allThrough; baseline = c.baseline; shown = record { 0 = c.shown.0 + 1 }; count = c.count + 1 }

unfoldable pub past_hidden : Cursor → Cursor
past_hidden c = record { y = c.y; strut = c.strut; top = c.top; first = c.first; allThrough = c.allThrough; baseline = c.baseline; shown = c.shown; count = c.count + 1 }

-- the counts of a cursor have room for one more
pub record Counts (c : Cursor) : Type 0 where
  pub shown : c.shown.0 < 4294967295
  pub count : c.count < 4294967295
