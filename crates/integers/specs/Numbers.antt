-- Whole numbers, some of which may be missing; sizes, sides, places and margin sets of them.
use Rattle.std.specs.Prelude.{Bool, true, false, ℤ, pos, neg_ℤ, ◌+ℤ◌, ◌-ℤ◌}
use Rattle.whole.specs.More.{max_z, min_z}

-- a number that may be missing
pub data MayZ : Type 0 where
  NoneZ : MayZ
  SomeZ : ℤ → MayZ

unfoldable pub unwrap_or_z : MayZ → ℤ → ℤ
unwrap_or_z NoneZ y = y
unwrap_or_z (SomeZ x) y = x

-- an absent value is written as 0
unfoldable pub or_zero_z : MayZ → ℤ
or_zero_z NoneZ = pos 0
or_zero_z (SomeZ x) = x

unfoldable pub or_else_z : MayZ → MayZ → MayZ
or_else_z NoneZ o = o
or_else_z (SomeZ x) o = SomeZ x

unfoldable pub is_some_z : MayZ → Bool
is_some_z NoneZ = false
is_some_z (SomeZ x) = true

unfoldable pub add_opt_z : MayZ → ℤ → MayZ
add_opt_z NoneZ y = NoneZ
add_opt_z (SomeZ x) y = SomeZ (x +ℤ y)

unfoldable pub sub_opt_z : MayZ → ℤ → MayZ
sub_opt_z NoneZ y = NoneZ
sub_opt_z (SomeZ x) y = SomeZ (x -ℤ y)

unfoldable pub neg_opt_z : MayZ → MayZ
neg_opt_z NoneZ = NoneZ
neg_opt_z (SomeZ x) = SomeZ (neg_ℤ x)

-- clamp: smaller with max, then larger with min, each where it is there
unfoldable pub capped_z : ℤ → MayZ → ℤ
capped_z x NoneZ = x
capped_z x (SomeZ m) = min_z x m

unfoldable pub floored_z : ℤ → MayZ → ℤ
floored_z x NoneZ = x
floored_z x (SomeZ m) = max_z x m

unfoldable pub clamped_z : ℤ → MayZ → MayZ → ℤ
clamped_z x lo hi = floored_z (capped_z x hi) lo

unfoldable pub clamp_opt_z : MayZ → MayZ → MayZ → MayZ
clamp_opt_z NoneZ lo hi = NoneZ
clamp_opt_z (SomeZ x) lo hi = SomeZ (clamped_z x lo hi)

unfoldable pub floor_opt_z : MayZ → ℤ → MayZ
floor_opt_z NoneZ y = NoneZ
floor_opt_z (SomeZ x) y = SomeZ (max_z x y)

pub record SizeZ : Type 0 where
  pub width : ℤ
  pub height : ℤ

pub record SizeMay : Type 0 where
  pub width : MayZ
  pub height : MayZ

pub record PointZ : Type 0 where
  pub x : ℤ
  pub y : ℤ

pub record RectZ : Type 0 where
  pub top : ℤ
  pub right : ℤ
  pub bottom : ℤ
  pub left : ℤ

pub record RectMay : Type 0 where
  pub top : MayZ
  pub right : MayZ
  pub bottom : MayZ
  pub left : MayZ

-- left + right, top + bottom, and side by side
unfoldable pub across_z : RectZ → ℤ
across_z r = r.left +ℤ r.right

unfoldable pub down_z : RectZ → ℤ
down_z r = r.top +ℤ r.bottom

unfoldable pub plus_z : RectZ → RectZ → RectZ
plus_z a b = record { top = a.top +ℤ b.top; right = a.right +ℤ b.right; bottom = a.bottom +ℤ b.bottom; left = a.left +ℤ b.left }

-- four sides, 0 where one is missing
unfoldable pub sides_z : RectMay → RectZ
sides_z r = record { top = or_zero_z r.top; right = or_zero_z r.right; bottom = or_zero_z r.bottom; left = or_zero_z r.left }

-- a margin set: the largest positive and the smallest negative, each 0 if there is none
pub record SetZ : Type 0 where
  pub positive : ℤ
  pub negative : ℤ

unfoldable pub no_margins_z : SetZ
no_margins_z = record { positive = pos 0; negative = pos 0 }

unfoldable pub set_of_z : ℤ → SetZ
set_of_z m = record { positive = max_z (pos 0) m; negative = min_z (pos 0) m }

unfoldable pub joined_z : SetZ → SetZ → SetZ
joined_z a b = record { positive = max_z a.positive b.positive; negative = min_z a.negative b.negative }

unfoldable pub joined_with_z : SetZ → ℤ → SetZ
joined_with_z a m = joined_z a (set_of_z m)

unfoldable pub sum_of_z : SetZ → ℤ
sum_of_z a = a.positive +ℤ a.negative
