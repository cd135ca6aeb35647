-- The test whether a float is a whole number up to 1024 in size, and the number that it is. Assumes nothing.
use Rattle.std.specs.Prelude.{◌*◌, ◌/◌, ◌%◌, ◌≤◌, T, leb, eqb, ℤ, nat_abs, Float}
use Rattle.std.proofs.Common.{le→leb}
use Rattle.std.specs.Float.{nan, inf, fin}
use Rattle.std.specs.Float.Ieee.{up, down, eq}
use Rattle.std.specs.Float.Ieee.Fits.{and_i, eq→eqb}
use Rattle.whole.specs.Whole.{Whole}
use Rattle.whole.specs.Test.{pixel, cut}

pub whole_pixel_lem : (x : Float) (k : ℤ) → Whole x k → nat_abs k ≤ 1024 → T (pixel x)
whole_pixel_lem nan k p h = p
whole_pixel_lem (inf s) k p h = p
whole_pixel_lem (fin s m e) k p h =
    let c = cut m e (nat_abs k) p.0 in
    and_i (eqb (m * up e % down e) 0) (leb (m * up e / down e) 1024) (eq→eqb c.1) (le→leb (m * up e / down e) 1024 (rw c.0 h))
