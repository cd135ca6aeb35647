-- A whole float with its range, from -l to h, so that what a sum asks is arithmetic on naturals. Assumes nothing.
use Rattle.std.specs.Prelude.{◌-◌, ◌≤◌, T, ℤ, pos, negsuc, nat_abs, Float}
use Rattle.std.proofs.Common.{zero-le}
use Rattle.whole.specs.Test.{pixel, number, pixel_whole}
use Rattle.whole.specs.Range.{under, above, Within}

-- a page's number that passes the test
pub pixel_within : (x : Float) → T (pixel x) → Within x (number x) 1024 1024
pixel_within x t =
    let p = pixel_whole x t in
    record { whole = p.0; low = (ends (number x) p.1).0; high = (ends (number x) p.1).1 }
  where
    ends : (k : ℤ) → nat_abs k ≤ 1024 → (under k ≤ 1024) × (above k ≤ 1024)
    ends (pos n) h = (zero-le, h)
    ends (negsuc n) h = (h, zero-le)
