-- Steps I and J: a container's frame, and its stack, child by child.
use Rattle.std.specs.Prelude.{Bool, true, false, cond, not, ◌&&◌, ℕ, ◌+◌, ℤ, pos, ◌+ℤ◌, ◌-ℤ◌}
use Rattle.std.specs.Int.Signed.{lt_z}
use Rattle.style.specs.declared.Position.{Position}
use Rattle.style.specs.declared.Position.TheVariants.{Static, Relative, Absolute}
use Rattle.whole.specs.Compare.{eq_z}
use Rattle.whole.specs.More.{max_z}
use Rattle.integers.specs.Numbers.{MayZ, NoneZ, SomeZ, SizeMay, PointZ, RectZ, RectMay, SetZ, unwrap_or_z, or_zero_z, or_else_z, is_some_z, sub_opt_z, neg_opt_z, clamped_z, clamp_opt_z, floor_opt_z, across_z, down_z, sides_z, no_margins_z, joined_z, joined_with_z, sum_of_z}
use Rattle.integers.specs.Styles.{StyleZ, plain_block_z, MaxContentZ, InputZ}
use Rattle.integers.specs.Boxes.{BoxZ, box_of_z, known_z, insets_z}
use Rattle.integers.specs.Rows.{OutputZ, origin_z}

-- a container after A to I
pub record FrameZ : Type 0 where
  pub width : ℤ
  pub height : MayZ
  pub inset : RectZ
  pub floor : ℤ
  pub minHeight : MayZ
  pub maxHeight : MayZ
  pub heightBasis : MayZ
  pub ownStart : Bool
  pub ownEnd : Bool
  pub hollow : Bool
  pub rtl : Bool

-- I: an edge adjoins if its flag is set, no new context, not out of flow, and padding and border there equal 0
unfoldable pub adjoins_z : StyleZ → Bool → ℤ → ℤ → Bool
adjoins_z s flag padding border = flag && (plain_block_z s && (eq_z padding (pos 0) && eq_z border (pos 0)))

-- N: below the root, in-flow block without new context, four vertical paddings and borders not above 0
unfoldable pub open_box_z : RectZ → RectZ → Bool
open_box_z padding border = not (lt_z (pos 0) padding.top) && (not (lt_z (pos 0) padding.bottom) && (not (lt_z (pos 0) border.top) && not (lt_z (pos 0) border.bottom)))

unfoldable pub hollow_box_z : StyleZ → Bool → RectZ → RectZ → Bool
hollow_box_z s nested padding border = nested && (plain_block_z s && open_box_z padding border)

-- the height basis that rows below note: the definite height less insets
unfoldable pub definite_of_z : InputZ → MayZ → MayZ
definite_of_z q height = cond (is_some_z q.known.height && not q.definiteHeight) NoneZ height

unfoldable pub basis_below_z : InputZ → SizeMay → RectZ → MayZ
basis_below_z q known inset = sub_opt_z (definite_of_z q known.height) (down_z inset)

-- I
unfoldable pub step_iz : StyleZ → InputZ → BoxZ → SizeMay → ℤ → FrameZ
step_iz s q z known width =
    record {
      width = width;
      height = known.height;
      inset = insets_z s;
      floor = down_z z.both;
      minHeight = z.min.height;
      maxHeight = z.max.height;
      heightBasis = basis_below_z q known (insets_z s);
      ownStart = adjoins_z s q.collapseStart z.padding.top z.border.top;
      ownEnd = adjoins_z s q.collapseEnd z.padding.bottom z.border.bottom && not (is_some_z z.size.height);
      hollow = hollow_box_z s q.nested z.padding z.border;
      rtl = s.rtl;
    }

unfoldable pub frame_of_z : StyleZ → InputZ → ℤ → FrameZ
frame_of_z s q found =
    let z = box_of_z s in
    let known = known_z z q.known in
    step_iz s q z known (unwrap_or_z known.width found)

-- inner is W less insets
unfoldable pub inner_width_z : FrameZ → ℤ
inner_width_z f = f.width -ℤ across_z f.inset

-- a child of the stack: margins (auto counts 0), which side margins are auto, the relative offset
pub record ItemZ : Type 0 where
  pub sizing : BoxZ
  pub margin : RectZ
  pub left : Bool
  pub right : Bool
  pub offset : PointZ

-- left else -right, in RTL -right else left
unfoldable pub offset_xz : MayZ → MayZ → Bool → ℤ
offset_xz left right rtl = cond rtl (or_zero_z (or_else_z (neg_opt_z right) left)) (or_zero_z (or_else_z left (neg_opt_z right)))

-- the offset of a relative box; y is top else -bottom
unfoldable pub relative_offset_z : RectMay → Bool → PointZ
relative_offset_z i rtl = record { x = offset_xz i.left i.right rtl; y = or_zero_z (or_else_z i.top (neg_opt_z i.bottom)) }

unfoldable pub offset_by_z : Position → RectMay → Bool → PointZ
offset_by_z Static i rtl = origin_z
offset_by_z Relative i rtl = relative_offset_z i rtl
offset_by_z Absolute i rtl = origin_z

unfoldable pub item_of_z : FrameZ → StyleZ → ItemZ
item_of_z f s =
    record {
      sizing = box_of_z s;
      margin = sides_z s.margin;
      left = not (is_some_z s.margin.left);
      right = not (is_some_z s.margin.right);
      offset = offset_by_z s.position s.inset f.rtl;
    }

-- width = size or inner - margins, clamped, larger with padding+border
unfoldable pub asked_width_z : FrameZ → ItemZ → ℤ
asked_width_z f i =
    let width = unwrap_or_z i.sizing.size.width (inner_width_z f -ℤ across_z i.margin) in
    max_z (clamped_z width i.sizing.min.width i.sizing.max.width) (across_z i.sizing.both)

-- a height is asked only if the size has one
unfoldable pub asked_height_z : ItemZ → MayZ
asked_height_z i = floor_opt_z (clamp_opt_z i.sizing.size.height i.sizing.min.height i.sizing.max.height) (down_z i.sizing.both)

-- the question put to a child
unfoldable pub child_input_z : FrameZ → StyleZ → ItemZ → InputZ
child_input_z f s i =
    record {
      known = record { width = SomeZ (asked_width_z f i); height = asked_height_z i };
      parent = SomeZ (inner_width_z f);
      basis = f.heightBasis;
      definiteHeight = true;
      available = MaxContentZ;
      collapseStart = plain_block_z s;
      collapseEnd = plain_block_z s;
      nested = true;
    }

unfoldable pub question_to_z : FrameZ → StyleZ → InputZ
question_to_z f s = child_input_z f s (item_of_z f s)

-- where the stack stands: y, the strut, the top set, still at the top, all shown children through so far, the first baseline, and two counts
pub record CursorZ : Type 0 where
  pub y : ℤ
  pub strut : SetZ
  pub top : SetZ
  pub first : Bool
  pub allThrough : Bool
  pub baseline : MayZ
  pub shown : ℕ
  pub count : ℕ

unfoldable pub start_of_z : FrameZ → CursorZ
start_of_z f = record { y = f.inset.top; strut = no_margins_z; top = no_margins_z; first = true; allThrough = true; baseline = NoneZ; shown = 0; count = 0 }

-- T and B: its sets joined with its own margins
unfoldable pub top_margins_z : ItemZ → OutputZ → SetZ
top_margins_z i o = joined_with_z o.top i.margin.top

unfoldable pub bottom_margins_z : ItemZ → OutputZ → SetZ
bottom_margins_z i o = joined_with_z o.bottom i.margin.bottom

-- still at the top with own start; gap is 0 then, else the sum of strut joined T
unfoldable pub at_top_z : FrameZ → CursorZ → Bool
at_top_z f c = c.first && f.ownStart

unfoldable pub gap_of_z : FrameZ → CursorZ → SetZ → ℤ
gap_of_z f c t = cond (at_top_z f c) (pos 0) (sum_of_z (joined_z c.strut t))

-- free = larger(0, (inner-w)-margins)
unfoldable pub free_of_z : FrameZ → ItemZ → ℤ → ℤ
free_of_z f i w = max_z (pos 0) ((inner_width_z f -ℤ w) -ℤ across_z i.margin)

-- free space to an auto margin; there is at most one
unfoldable pub share_of_z : Bool → ℤ → ℤ → ℤ
share_of_z own margin free = cond own free margin

-- place x: LTR (left inset+left margin)+offset; RTL (((W-right inset)-right margin)-w)+offset
unfoldable pub place_xz : FrameZ → ItemZ → ℤ → ℤ
place_xz f i w =
    let free = free_of_z f i w in
    let right = share_of_z i.right i.margin.right free in
    let left = share_of_z i.left i.margin.left free in
    cond f.rtl ((((f.width -ℤ f.inset.right) -ℤ right) -ℤ w) +ℤ i.offset.x) ((f.inset.left +ℤ left) +ℤ i.offset.x)

-- place y: (y+gap)+offset
unfoldable pub place_yz : FrameZ → CursorZ → ItemZ → OutputZ → ℤ
place_yz f c i o = (c.y +ℤ gap_of_z f c (top_margins_z i o)) +ℤ i.offset.y

unfoldable pub place_of_z : FrameZ → CursorZ → ItemZ → OutputZ → PointZ
place_of_z f c i o = record { x = place_xz f i o.size.width; y = place_yz f c i o }

-- the first baseline: what was found before, else that of the child at y
unfoldable pub at_place_z : ℤ → MayZ → MayZ
at_place_z y NoneZ = NoneZ
at_place_z y (SomeZ b) = SomeZ (y +ℤ b)

unfoldable pub baseline_past_z : MayZ → ℤ → MayZ → MayZ
baseline_past_z before y b = or_else_z before (at_place_z y b)

-- through: strut takes T and B, and so does the top set if at the top
unfoldable pub past_through_z : CursorZ → SetZ → SetZ → MayZ → CursorZ
past_through_z c t b baseline =
    record {
      y = c.y;
      strut = joined_z (joined_z c.strut t) b;
      top = cond c.first (joined_z (joined_z c.top t) b) c.top;
      first = c.first;
      allThrough = c.allThrough;
      baseline = baseline;
      shown = c.shown + 1;
      count = c.count + 1;
    }

-- else: the top set takes T if at the top, y = (y+gap)+h, strut = B, no longer at the top
unfoldable pub past_box_z : FrameZ → CursorZ → SetZ → SetZ → ℤ → MayZ → CursorZ
past_box_z f c t b h baseline =
    record {
      y = (c.y +ℤ gap_of_z f c t) +ℤ h;
      strut = b;
      top = cond c.first (joined_z c.top t) c.top;
      first = false;
      allThrough = false;
      baseline = baseline;
      shown = c.shown + 1;
      count = c.count + 1;
    }

unfoldable pub stepped_z : FrameZ → CursorZ → ItemZ → OutputZ → CursorZ
stepped_z f c i o =
    let baseline = baseline_past_z c.baseline (place_yz f c i o) o.baseline in
    cond o.through (past_through_z c (top_margins_z i o) (bottom_margins_z i o) baseline) (past_box_z f c (top_margins_z i o) (bottom_margins_z i o) o.size.height baseline)

-- out-of-flow line: y + strut's sum (0 instead while at the top with own start)
unfoldable pub line_of_z : FrameZ → CursorZ → ℤ
line_of_z f c = c.y +ℤ cond (at_top_z f c) (pos 0) (sum_of_z c.strut)

-- past an out-of-flow child, which counts as shown, and past a hidden one, which does not
unfoldable pub past_aside_z : CursorZ → CursorZ
past_aside_z c =
    record { y = c.y; strut = c.strut; top = c.top; first = c.first; allThrough = c.allThrough; baseline = c.baseline; shown = c.shown + 1; count = c.count + 1 }

unfoldable pub past_hidden_z : CursorZ → CursorZ
past_hidden_z c = record { y = c.y; strut = c.strut; top = c.top; first = c.first; allThrough = c.allThrough; baseline = c.baseline; shown = c.shown; count = c.count + 1 }
