-- A box whose size is not below 0 has no negative size in whole pixels: its far edge is not below its near edge. Assumes nothing.
use Rattle.std.specs.Prelude.{◌≡◌, true, false, T, pos, ◌-ℤ◌, ◌≤ℤ◌, Float}
use Rattle.std.specs.Float.Ieee.{lt, fits}
use Rattle.std.specs.Float.{binary32}
use Rattle.geometry.specs.Geometry.{zero_f}
use Rattle.geometry.specs.Floats.{◌⊕◌}
use Rattle.limits.specs.Limits.{finite}
use Rattle.pixel.specs.Pixel.{whole_pixel}
use Rattle.pixel.proofs.Laws.{size_not_negative}
use Rattle.sums.specs.Sums.{add_not_less}
use Rattle.sums.specs.Numbers.{finite_number, lt_le}

-- near is an f32, as each edge is; size is the row's
pub size_kept : (near size : Float) → T (fits binary32 near) → finite near ≡ true → finite (near ⊕ size) ≡ true → lt size zero_f ≡ false → pos 0 ≤ℤ (whole_pixel (near ⊕ size) -ℤ whole_pixel near)
size_kept near size t f g h = size_not_negative near (near ⊕ size) f g (lt_le near (near ⊕ size) (finite_number near f) (finite_number (near ⊕ size) g) (add_not_less binary32 near size t h))
