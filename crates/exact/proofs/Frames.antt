-- Step I, and what step J asks of a child, on a page of the profile. Assumes nothing.
use Rattle.length.specs.declared.Length.{Length}
use Rattle.geometry.specs.declared.Size.{Size}
use Rattle.geometry.specs.declared.Rect.{Rect}
use Rattle.std.specs.Prelude.{◌≡◌, refl, Bool, false, ℕ, ◌+◌, ◌≤◌, ℤ, Float, Option, Some}
use Rattle.std.proofs.Common.{arith, lit≤}
use Rattle.style.specs.declared.Position.{Position}
use Rattle.style.specs.declared.Position.TheVariants.{Static, Relative, Absolute}
use Rattle.style.specs.declared.Style.{Style}
use Rattle.steps.specs.Edges.{step_i, frame_of}
use Rattle.steps.specs.Stack.{inner_width, relative_offset, offset_by, item_of, asked_width, child_input, question_to}
use Rattle.steps.specs.declared.LayoutInput.{LayoutInput}
use Rattle.steps.specs.declared.Sizing.{Sizing}
use Rattle.steps.specs.declared.Frame.{Frame}
use Rattle.whole.specs.Range.{zero_is}
use Rattle.integers.specs.Numbers.{SizeMay}
use Rattle.integers.specs.Styles.{InputZ}
use Rattle.integers.specs.Boxes.{box_of_z}
use Rattle.integers.specs.Stacks.{FrameZ, step_iz, frame_of_z, relative_offset_z, offset_by_z, item_of_z, asked_width_z, child_input_z, question_to_z}
use Rattle.profile.specs.Profile.{two_autos}
use Rattle.profile.specs.Page.{WholeRect, InProfile}
use Rattle.exact.specs.Near.{Near, wide, some_is, or_else_is, unwrap_is, or_zero_is, neg_opt_is}
use Rattle.exact.specs.Read.{rect_z, style_z}
use Rattle.exact.specs.Boxes.{SizeIs, BoxIs, both_down, box_both, known_is}
use Rattle.exact.proofs.Boxes.{length_is, sides_is, box_is, insets_is}
use Rattle.exact.specs.Widths.{max_is}
use Rattle.exact.specs.Frames.{InputIs, FrameIs, plain_is, adjoins_is, hollow_is, own_end_is, basis_is, rtl_is, inner_is, PointIs, ItemIs, offset_x_is, auto_is, asked_height_is}

step_i_is : (s : Style) {w : ℕ} {q : LayoutInput} {z : InputZ} {b : Sizing} {o : Size (Option Float)} {a : SizeMay} {x : Float} {k : ℤ} → InProfile s → InputIs w q z → BoxIs b (box_of_z (style_z s)) → SizeIs o a w 5120 → Near x k w
    → FrameIs w (step_i s q b o x) (step_iz (style_z s) z (box_of_z (style_z s)) a k)
unfolding step_i step_iz
step_i_is s p q b o x =
    let i = insets_is s p (rw (box_both s) at b.both) in
    record {
      width = x;
      height = o.height;
      inset = i;
      floor = both_down b.both;
      least = b.min.height;
      most = b.max.height;
      basis = basis_is q o i;
      ownStart = adjoins_is s q.start b.padding.top b.border.top;
      ownEnd = own_end_is s q.end b.padding.bottom b.border.bottom b.size.height;
      hollow = hollow_is s q.nested b.padding b.border;
      rtl = rtl_is s;
    }

pub frame_is : (s : Style) {w : ℕ} {q : LayoutInput} {z : InputZ} {x : Float} {k : ℤ} → InProfile s → InputIs w q z → Near x k w → 5120 ≤ w → FrameIs w (frame_of s q x) (frame_of_z (style_z s) z k)
unfolding frame_of frame_of_z
frame_is s {w} {q} p i x u =
    let b = box_is s q.parent q.basis p in
    let o = known_is s p b i.known u (lit≤ tt) in
    step_i_is s p i b o (unwrap_is o.width x)

relative_is : (l : Rect Length) (t : Bool) (b h : Option Float) → WholeRect l → PointIs 1024 1024 (relative_offset l t b h) (relative_offset_z (rect_z l) t)
unfolding relative_offset relative_offset_z
relative_is l t b h p =
    record {
      x = offset_x_is t (length_is l.left b p.left) (length_is l.right b p.right);
      y = or_zero_is (or_else_is (length_is l.top h p.top) (neg_opt_is (length_is l.bottom h p.bottom)));
    }

offset_by_is : (o : Position) (l : Rect Length) (t : Bool) (b h : Option Float) → WholeRect l → PointIs 1024 1024 (offset_by o l t b h) (offset_by_z o (rect_z l) t)
unfolding offset_by offset_by_z
offset_by_is Static l t b h p = record { x = zero_is; y = zero_is }
offset_by_is Relative l t b h p = relative_is l t b h p
offset_by_is Absolute l t b h p = record { x = zero_is; y = zero_is }

pub item_is : (s : Style) {w : ℕ} {f : Frame} {z : FrameZ} → InProfile s → two_autos s ≡ false → FrameIs w f z → ItemIs (item_of f s) (item_of_z z (style_z s))
unfolding item_of item_of_z style_z
item_is s {w} {f} {z} p e q =
    let l = auto_is s.margin.left p.margin.left in
    let r = auto_is s.margin.right p.margin.right in
    record {
      sizing = box_is s (Some (inner_width f)) f.heightBasis p;
      margin = sides_is s.margin (Some (inner_width f)) p.margin;
      left = l;
      right = r;
      sides = e;
      offset = rw (← q.rtl) (offset_by_is s.position s.inset f.rtl (Some (inner_width f)) f.heightBasis p.inset);
    }

pub question_is : (s : Style) {w v : ℕ} {f : Frame} {z : FrameZ} → InProfile s → two_autos s ≡ false → FrameIs w f z → w + 6144 ≤ 1048576 → Near (asked_width f (item_of f s)) (asked_width_z z (item_of_z z (style_z s))) v
    → InputIs v (question_to f s) (question_to_z z (style_z s))
unfolding question_to question_to_z child_input child_input_z
question_is s p e q u a =
    let i = item_is s p e q in
    record {
      known = record { width = some_is a; height = asked_height_is i };
      parent = some_is (wide (inner_is q (omega arith)) u);
      basis = q.basis;
      definite = refl;
      available = max_is;
      start = plain_is s;
      end = plain_is s;
      nested = refl;
    }
