-- Steps A, B, D and E of a box of the profile are those over whole numbers. Assumes nothing.
use Rattle.geometry.specs.declared.Size.{Size}
use Rattle.std.specs.Prelude.{◌≡◌, true, ◌≤◌, Option, None, Some, Float}
use Rattle.std.proofs.Common.{lit≤}
use Rattle.geometry.specs.Geometry.{plus}
use Rattle.geometry.specs.declared.Rect.{Rect}
use Rattle.util.specs.Maybe.{ratio_fills}
use Rattle.length.specs.Length.{resolved, resolved_or_zero, resolved_rect, resolved_size}
use Rattle.length.specs.declared.Length.{Length}
use Rattle.length.specs.declared.Length.TheVariants.{Auto, Pixels, Fraction}
use Rattle.style.specs.declared.Style.{Style}
use Rattle.steps.specs.Sizing.{box_size, sized_by, sizing_of, insets}
use Rattle.integers.specs.Numbers.{RectZ, or_zero_z, plus_z, sides_z}
use Rattle.integers.specs.Boxes.{box_size_z, box_both_z, box_of_z, insets_z}
use Rattle.profile.specs.Profile.{whole_length, whole_option}
use Rattle.profile.specs.Page.{WholeSize, WholeRect, InProfile}
use Rattle.exact.specs.Near.{Near, plus_is, MayIs, none_is, some_is, or_zero_is}
use Rattle.exact.specs.Read.{length_z, option_z, size_z, rect_z, style_z}
use Rattle.exact.specs.Boxes.{no, pixel_is, RectIs, SizeIs, BoxIs, boxed_is, plus_rect_is}
use Rattle.exact.proofs.BoxesLaws.{gutter_is}

pub length_is : (l : Length) (b : Option Float) → whole_length l ≡ true → MayIs 1024 (resolved l b) (length_z l)
unfolding resolved
length_is Auto b e = none_is
length_is (Pixels x) b e = some_is (pixel_is x e)
length_is (Fraction f) b e = no e

pub option_is : (o : Option Float) → whole_option o ≡ true → MayIs 1024 o (option_z o)
option_is None e = none_is
option_is (Some x) e = some_is (pixel_is x e)

pub length_or_zero : (l : Length) (b : Option Float) → whole_length l ≡ true → Near (resolved_or_zero l b) (or_zero_z (length_z l)) 1024
unfolding resolved_or_zero
length_or_zero l b e = or_zero_is (length_is l b e)

pub sides_is : (l : Rect Length) (b : Option Float) → WholeRect l → RectIs (resolved_rect l b) (sides_z (rect_z l)) 1024 1024 1024
unfolding resolved_rect sides_z
sides_is l b p =
    record {
      top = length_or_zero l.top b p.top;
      right = length_or_zero l.right b p.right;
      bottom = length_or_zero l.bottom b p.bottom;
      left = length_or_zero l.left b p.left;
    }

box_size_is : (s : Style) (l : Size Length) (b h : Option Float) (r : Rect Float) (k : RectZ) → s.ratio ≡ None → WholeSize l → RectIs r k 2048 2048 2048
    → SizeIs (box_size s l b h r) (box_size_z s.content (size_z l) k) 5120 5120
unfolding box_size ratio_fills resolved_size
box_size_is s l b h r k e p q = rw e (boxed_is s.content (record { width = length_is l.width b p.width; height = length_is l.height h p.height }) q)

both_is : (s : Style) (b : Option Float) → InProfile s → RectIs (plus (resolved_rect s.padding b) (resolved_rect s.border b)) (box_both_z (style_z s)) 2048 2048 2048
unfolding box_both_z style_z
both_is s b p = plus_rect_is (sides_is s.padding b p.padding) (sides_is s.border b p.border)

sized_is : (s : Style) (b h : Option Float) (pad bord both : Rect Float) → InProfile s
    → RectIs pad (sides_z (rect_z s.padding)) 1024 1024 1024 → RectIs bord (sides_z (rect_z s.border)) 1024 1024 1024 → RectIs both (box_both_z (style_z s)) 2048 2048 2048
    → BoxIs (sized_by s b h pad bord both) (box_of_z (style_z s))
unfolding sized_by box_of_z style_z
sized_is s b h pad bord both p u v w =
    record {
      padding = u;
      border = v;
      both = w;
      size = box_size_is s s.size b h both _ p.ratio p.size w;
      min = box_size_is s s.min b h both _ p.ratio p.min w;
      max = box_size_is s s.max b h both _ p.ratio p.max w;
    }

-- A, whatever the bases
pub box_is : (s : Style) (b h : Option Float) → InProfile s → BoxIs (sizing_of s b h) (box_of_z (style_z s))
unfolding sizing_of
box_is s b h p = sized_is s b h _ _ _ p (sides_is s.padding b p.padding) (sides_is s.border b p.border) (both_is s b p)

pub insets_is : (s : Style) {r : Rect Float} → InProfile s → RectIs r (box_both_z (style_z s)) 2048 2048 2048 → RectIs (insets s r) (insets_z (style_z s)) 2048 3072 3072
unfolding insets insets_z plus plus_z
insets_is s p q =
    let g = gutter_is s p in
    record {
      top = plus_is q.top g.top (lit≤ tt);
      right = plus_is q.right g.right (lit≤ tt);
      bottom = plus_is q.bottom g.bottom (lit≤ tt);
      left = plus_is q.left g.left (lit≤ tt);
    }
