-- Steps A, B and E of one box. Without fractions no basis is read, and without a ratio D fills nothing.
use Rattle.std.specs.Prelude.{Bool, cond, ℤ, pos}
use Rattle.std.specs.Int.Signed.{le_z}
use Rattle.style.specs.declared.Overflow.{Overflow}
use Rattle.style.specs.declared.Overflow.TheVariants.{Visible, Clip, Hidden, Scroll}
use Rattle.integers.specs.Numbers.{MayZ, NoneZ, SomeZ, SizeMay, RectZ, or_else_z, add_opt_z, clamp_opt_z, floor_opt_z, across_z, down_z, plus_z, sides_z}
use Rattle.integers.specs.Styles.{StyleZ}

-- A: `both` is padding+border side by side
pub record BoxZ : Type 0 where
  pub padding : RectZ
  pub border : RectZ
  pub both : RectZ
  pub size : SizeMay
  pub min : SizeMay
  pub max : SizeMay

-- A: padding+border is added if content-box
unfoldable pub box_size_z : Bool → SizeMay → RectZ → SizeMay
box_size_z content l both = cond content (record { width = add_opt_z l.width (across_z both); height = add_opt_z l.height (down_z both) }) l

unfoldable pub box_both_z : StyleZ → RectZ
box_both_z s = plus_z (sides_z s.padding) (sides_z s.border)

unfoldable pub box_of_z : StyleZ → BoxZ
box_of_z s =
    record {
      padding = sides_z s.padding;
      border = sides_z s.border;
      both = box_both_z s;
      size = box_size_z s.content s.size (box_both_z s);
      min = box_size_z s.content s.min (box_both_z s);
      max = box_size_z s.content s.max (box_both_z s);
    }

-- B: min where max <= min
unfoldable pub decided_z : MayZ → MayZ → MayZ
decided_z NoneZ hi = NoneZ
decided_z (SomeZ lo) NoneZ = NoneZ
decided_z (SomeZ lo) (SomeZ hi) = cond (le_z hi lo) (SomeZ lo) NoneZ

-- B, one axis: asked size, else min where max <= min, else clamped style size; then larger with padding+border
unfoldable pub known_axis_z : MayZ → MayZ → MayZ → MayZ → ℤ → MayZ
known_axis_z asked size lo hi pb = floor_opt_z (or_else_z asked (or_else_z (decided_z lo hi) (clamp_opt_z size lo hi))) pb

unfoldable pub known_z : BoxZ → SizeMay → SizeMay
known_z z asked =
    record {
      width = known_axis_z asked.width z.size.width z.min.width z.max.width (across_z z.both);
      height = known_axis_z asked.height z.size.height z.min.height z.max.height (down_z z.both);
    }

-- E: a scrollbar's place, where that axis scrolls: right (left in RTL) and at the bottom
unfoldable pub bar_of_z : Overflow → ℤ → ℤ
bar_of_z Visible x = pos 0
bar_of_z Clip x = pos 0
bar_of_z Hidden x = pos 0
bar_of_z Scroll x = x

unfoldable pub gutter_z : StyleZ → RectZ
gutter_z s =
    record {
      top = pos 0;
      right = cond s.rtl (pos 0) (bar_of_z s.overflow.y s.scrollbar);
      bottom = bar_of_z s.overflow.x s.scrollbar;
      left = cond s.rtl (bar_of_z s.overflow.y s.scrollbar) (pos 0);
    }

-- E: insets are padding+border plus gutter
unfoldable pub insets_z : StyleZ → RectZ
insets_z s = plus_z (box_both_z s) (gutter_z s)
