-- Steps K to N: the height of a container, the shift, the sets that it passes out. A leaf's answer.
use Rattle.std.specs.Prelude.{Bool, false, cond, not, ◌&&◌, ◌||◌, ℤ, pos, ◌+ℤ◌, ◌-ℤ◌}
use Rattle.std.specs.Int.Signed.{lt_z, le_z}
use Rattle.style.specs.declared.AlignContent.{AlignContent}
use Rattle.style.specs.declared.AlignContent.TheVariants.{Normal, Start, Center, End, SpaceBetween, SpaceAround, SpaceEvenly, Stretch}
use Rattle.whole.specs.Compare.{eq_z}
use Rattle.whole.specs.More.{max_z}
use Rattle.integers.specs.Numbers.{MayZ, NoneZ, SomeZ, SetZ, unwrap_or_z, or_zero_z, add_opt_z, clamped_z, down_z, no_margins_z, set_of_z, sum_of_z}
use Rattle.integers.specs.Styles.{MeasureZ, StyleZ, InputZ}
use Rattle.integers.specs.Widths.{leaf_width_z}
use Rattle.integers.specs.Rows.{OutputZ}
use Rattle.integers.specs.Stacks.{FrameZ, CursorZ, at_top_z}

-- K: extra is the strut's sum, but 0 if own end, or still at the top with own start; content height = larger(0, (y+extra)+bottom inset)
unfoldable pub extra_of_z : FrameZ → CursorZ → ℤ
extra_of_z f c = cond (f.ownEnd || at_top_z f c) (pos 0) (sum_of_z c.strut)

unfoldable pub step_kz : FrameZ → CursorZ → ℤ
step_kz f c = max_z (pos 0) ((c.y +ℤ extra_of_z f c) +ℤ f.inset.bottom)

-- L: known, else clamped content; then larger with padding+border
unfoldable pub step_lz : FrameZ → ℤ → ℤ
step_lz f content = max_z (unwrap_or_z f.height (clamped_z content f.minHeight f.maxHeight)) f.floor

-- L: own end is dropped if min-height > 0 and >= height
unfoldable pub held_open_z : MayZ → ℤ → Bool
held_open_z NoneZ height = false
held_open_z (SomeZ lo) height = lt_z (pos 0) lo && le_z height lo

unfoldable pub still_own_end_z : FrameZ → ℤ → Bool
still_own_end_z f height = f.ownEnd && not (held_open_z f.minHeight height)

-- M: nothing is added but for end, which adds all free space; safe: negative free space is none. Center, space-around and space-evenly are not of the profile.
unfoldable pub room_of_z : Bool → ℤ → ℤ
room_of_z safe free = cond (safe && lt_z free (pos 0)) (pos 0) free

unfoldable pub align_shift_z : AlignContent → Bool → ℤ → MayZ
align_shift_z Normal safe free = NoneZ
align_shift_z Start safe free = NoneZ
align_shift_z Center safe free = NoneZ
align_shift_z End safe free = SomeZ (room_of_z safe free)
align_shift_z SpaceBetween safe free = NoneZ
align_shift_z SpaceAround safe free = NoneZ
align_shift_z SpaceEvenly safe free = NoneZ
align_shift_z Stretch safe free = NoneZ

-- M: free = (height - insets) - (content - insets)
unfoldable pub step_mz : StyleZ → FrameZ → ℤ → ℤ → MayZ
step_mz s f height content = align_shift_z s.align s.safe ((height -ℤ down_z f.inset) -ℤ (content -ℤ down_z f.inset))

-- M moves a baseline as it moves places; containment suppresses it
unfoldable pub shifted_z : MayZ → MayZ → MayZ
shifted_z b NoneZ = b
shifted_z b (SomeZ d) = add_opt_z b d

-- N: a hollow box of height 0 whose every shown child is through or out of flow
unfoldable pub step_nz : FrameZ → CursorZ → ℤ → Bool
step_nz f c height = f.hollow && (eq_z height (pos 0) && c.allThrough)

-- N: a set that is not passed out holds the own margin alone
unfoldable pub passed_out_z : Bool → SetZ → ℤ → SetZ
passed_out_z passed set own = cond passed set (set_of_z own)

unfoldable pub output_of_z : StyleZ → FrameZ → CursorZ → ℤ → MayZ → OutputZ
output_of_z s f c height shift =
    record {
      size = record { width = f.width; height = height };
      top = passed_out_z f.ownStart c.top (or_zero_z s.margin.top);
      bottom = passed_out_z (still_own_end_z f height) c.strut (or_zero_z s.margin.bottom);
      through = step_nz f c height;
      baseline = cond s.contained NoneZ (shifted_z c.baseline shift);
    }

pub record FinishedZ : Type 0 where
  pub output : OutputZ
  pub shift : MayZ

-- K to N
unfoldable pub finished_z : StyleZ → FrameZ → CursorZ → FinishedZ
finished_z s f c =
    let content = step_kz f c in
    let height = step_lz f content in
    let shift = step_mz s f height content in
    record { output = output_of_z s f c height shift; shift = shift }

-- a leaf takes known sizes, else its table; empty sets, never through; its baseline as it is
unfoldable pub leaf_output_z : MeasureZ → InputZ → OutputZ
leaf_output_z m q =
    record {
      size = record { width = unwrap_or_z q.known.width (leaf_width_z m q.available); height = unwrap_or_z q.known.height m.height };
      top = no_margins_z;
      bottom = no_margins_z;
      through = false;
      baseline = m.baseline;
    }
