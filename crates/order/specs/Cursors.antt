-- One step of the stack, past a child whose sets hold nothing below 0. Assumes nothing.
use Rattle.std.specs.Prelude.{◌≡◌, Bool, true, false, cond, T, Float, Option}
use Rattle.std.proofs.Common.{ap, ◌∙◌}
use Rattle.std.specs.Float.Ieee.{lt, add, fits}
use Rattle.std.specs.Float.{binary32}
use Rattle.std.specs.Float.Ieee.Fits.{add-fits}
use Rattle.geometry.specs.Geometry.{zero_f, plus}
use Rattle.length.specs.Length.{resolved_rect}
use Rattle.style.specs.declared.Style.{Style}
use Rattle.margin.specs.Margin.{joined, sum_of}
use Rattle.margin.specs.declared.CollapsibleMarginSet.{CollapsibleMarginSet}
use Rattle.steps.specs.Sizing.{insets}
use Rattle.steps.specs.Edges.{frame_of, step_i}
use Rattle.steps.specs.Baseline.{baseline_past}
use Rattle.steps.specs.Stack.{start_of, item_of, place_y, stepped, past_through, past_box, past_aside, past_hidden, top_margins, bottom_margins, gap_of, at_top}
use Rattle.steps.specs.declared.LayoutInput.{LayoutInput}
use Rattle.steps.specs.declared.LayoutOutput.{LayoutOutput}
use Rattle.steps.specs.declared.BlockItem.{BlockItem}
use Rattle.steps.specs.declared.Frame.{Frame}
use Rattle.steps.specs.declared.Cursor.{Cursor}
use Rattle.sums.specs.Sums.{lt_self}
use Rattle.sums.specs.Zeros.{edge_none}
use Rattle.order.specs.Sets.{Up, none_up, joined_up, joined_with_up, sum_up}
use Rattle.order.specs.Steady.{Steady}

pub item_offset : (f : Frame) (s : Style) → Steady s → (item_of f s).offset.y ≡ zero_f
unfolding item_of
item_offset f s h = h.offset s.inset f.rtl _ _

-- y is a 32-bit number, the sets hold nothing below 0
pub record Good (c : Cursor) : Type 0 where
  pub y : T (fits binary32 c.y)
  pub strut : Up c.strut
  pub top : Up c.top

-- nor do the sets of an answer
pub record Sets (o : LayoutOutput) : Type 0 where
  pub top : Up o.top
  pub bottom : Up o.bottom

pub start_good : (s : Style) (q : LayoutInput) (found : Float) → Good (start_of (frame_of s q found))
unfolding start_of frame_of step_i insets plus
start_good s q found = record { y = add-fits binary32 _ _; strut = none_up; top = none_up }

pub hidden_good : (c : Cursor) → Good c → Good (past_hidden c)
unfolding past_hidden
hidden_good c g = record { y = g.y; strut = g.strut; top = g.top }

pub aside_good : (c : Cursor) → Good c → Good (past_aside c)
unfolding past_aside
aside_good c g = record { y = g.y; strut = g.strut; top = g.top }

pub tops_up : (f : Frame) (s : Style) (o : LayoutOutput) → Steady s → Sets o → Up (top_margins (item_of f s) o)
unfolding top_margins item_of resolved_rect
tops_up f s o h u = joined_with_up o.top _ u.top (h.above _)

pub bottoms_up : (f : Frame) (s : Style) (o : LayoutOutput) → Steady s → Sets o → Up (bottom_margins (item_of f s) o)
unfolding bottom_margins item_of resolved_rect
bottoms_up f s o h u = joined_with_up o.bottom _ u.bottom (h.under _)

either_up : (b : Bool) (x y : CollapsibleMarginSet) → Up x → Up y → Up (cond b x y)
either_up true x y p q = p
either_up false x y p q = q

pub gap_up : (f : Frame) (c : Cursor) (t : CollapsibleMarginSet) → Good c → Up t → lt (gap_of f c t) zero_f ≡ false
unfolding gap_of
gap_up f c t g u = go (at_top f c)
  where
    go : (b : Bool) → lt (cond b zero_f (sum_of (joined c.strut t))) zero_f ≡ false
    go true = lt_self zero_f
    go false = sum_up (joined c.strut t) (joined_up c.strut t g.strut u)

through_good : (c : Cursor) (t b : CollapsibleMarginSet) (l : Option Float) → Good c → Up t → Up b → Good (past_through c t b l)
unfolding past_through
through_good c t b l g u v =
    record {
      y = g.y;
      strut = joined_up (joined c.strut t) b (joined_up c.strut t g.strut u) v;
      top = either_up c.first _ _ (joined_up (joined c.top t) b (joined_up c.top t g.top u) v) g.top;
    }

box_good : (f : Frame) (c : Cursor) (t b : CollapsibleMarginSet) (h : Float) (l : Option Float) → Good c → Up t → Up b → Good (past_box f c t b h l)
unfolding past_box
box_good f c t b h l g u v = record { y = add-fits binary32 _ _; strut = v; top = either_up c.first _ _ (joined_up c.top t g.top u) g.top }

-- the first baseline past a child: nothing here reads it
abbrev pub line_past : Frame → Cursor → BlockItem → LayoutOutput → Option Float
line_past f c i o = baseline_past c.baseline (place_y f c i o) o.baseline

pub stepped_good : (f : Frame) (c : Cursor) (i : BlockItem) (o : LayoutOutput) → Good c → Up (top_margins i o) → Up (bottom_margins i o) → Good (stepped f c i o)
unfolding stepped
stepped_good f c i o g u v = go o.through
  where
    go : (b : Bool) → Good (cond b (past_through c (top_margins i o) (bottom_margins i o) (line_past f c i o)) (past_box f c (top_margins i o) (bottom_margins i o) o.size.height (line_past f c i o)))
    go true = through_good c _ _ _ g u v
    go false = box_good f c _ _ _ _ g u v

-- ---- the stack after a child: the same y, or y, the gap and the height

-- y and the gap before a set
abbrev pub top_of : Frame → Cursor → CollapsibleMarginSet → Float
top_of f c t = add binary32 c.y (gap_of f c t)

pub step_through : (f : Frame) (c : Cursor) (i : BlockItem) (o : LayoutOutput) → o.through ≡ true → stepped f c i o ≡ past_through c (top_margins i o) (bottom_margins i o) (line_past f c i o)
unfolding stepped
step_through f c i o e = ap (λ (w : Bool). cond w (past_through c (top_margins i o) (bottom_margins i o) (line_past f c i o)) (past_box f c (top_margins i o) (bottom_margins i o) o.size.height (line_past f c i o))) e

pub step_box : (f : Frame) (c : Cursor) (i : BlockItem) (o : LayoutOutput) → o.through ≡ false → (stepped f c i o).y ≡ add binary32 (top_of f c (top_margins i o)) o.size.height
unfolding stepped past_box
step_box f c i o e = ap (λ (w : Bool). (cond w (past_through c (top_margins i o) (bottom_margins i o) (line_past f c i o)) (past_box f c (top_margins i o) (bottom_margins i o) o.size.height (line_past f c i o))).y) e

pub place_is : (f : Frame) (c : Cursor) (i : BlockItem) (o : LayoutOutput) → i.offset.y ≡ zero_f → place_y f c i o ≡ add binary32 (top_of f c (top_margins i o)) zero_f
unfolding place_y
place_is f c i o e = ap (λ (z : Float). add binary32 (top_of f c (top_margins i o)) z) e

-- after a box that is not through the stack ends at its bottom edge
pub own_edge : (f : Frame) (c : Cursor) (i : BlockItem) (o : LayoutOutput) → o.through ≡ false → i.offset.y ≡ zero_f → lt (stepped f c i o).y (add binary32 (place_y f c i o) o.size.height) ≡ false
own_edge f c i o t e =
    let w = top_of f c (top_margins i o) in
    let h = o.size.height in
    ap (λ (z : Float). lt z (add binary32 (place_y f c i o) h)) (step_box f c i o t) ∙ ap (λ (z : Float). lt (add binary32 w h) (add binary32 z h)) (place_is f c i o e)
    ∙ edge_none w h (add-fits binary32 c.y (gap_of f c (top_margins i o)))
