-- A sum is not less than its first part where what is added is not below 0: rounding keeps the order. Assumes nothing.
use Rattle.std.specs.Prelude.{◌≡◌, Bool, T, Float}
use Rattle.std.proofs.Math.Path.{refl}
use Rattle.std.proofs.Math.Bool.{true, false}
use Rattle.std.specs.Float.{Format}
use Rattle.std.specs.Float.Ieee.{lt, add, fits, is_nan}
use Rattle.geometry.specs.Geometry.{zero_f}
use Rattle.util.specs.Order.{lt_none}
use Rattle.sums.specs.Sums.{add_not_less, nan_add}

-- whatever x is not less than; through a NaN too
pub add_chain : (f : Format) (x y z : Float) → T (fits f x) → lt y zero_f ≡ false → lt x z ≡ false → lt (add f x y) z ≡ false
add_chain f x y z t h g = go (is_nan x) refl
  where
    go : (b : Bool) → is_nan x ≡ b → lt (add f x y) z ≡ false
    go true e = nan_add f x y z e
    go false e = lt_none (add f x y) x z e (add_not_less f x y t h) g
