-- A whole number up to 1024 in size, tested with two sums: x is one exactly where (x + 3 * 2 ^ 22) - 3 * 2 ^ 22 is x, since an f32 from 2 ^ 23 on has no fraction. Assumes nothing.
use Rattle.std.specs.Prelude.{◌≡◌, true, false, ◌&&◌, T, pos, ◌-ℤ◌, Float}
use Rattle.std.proofs.Common.{sym, le_trans, le_of_eq, le_of_mul-le-mul_right, lit≤}
use Prim.Native.Nat.{◌-◌, ◌^◌, ◌≤◌}
use Rattle.std.specs.Float.{nan, inf, fin, binary32}
use Rattle.std.specs.Float.Ieee.{add, sub, le, eq}
use Rattle.std.specs.Float.Ieee.Fits.{down_pos, and_l, and_r}
use Rattle.whole.specs.Whole.{Whole, whole_of_value, sub_whole}
use Rattle.whole.specs.Test.{pixel, eq_carries}
use Rattle.whole.proofs.Test.{whole_pixel_lem}
use Rattle.whole.specs.Coarse.{lowest, highest, shift, near, shifted, passes, abs_between, shift_whole, T_true, both_ways}
use Rattle.whole.proofs.CoarseLaws.{pixel_passes}

pub passes_pixel : (x : Float) → T (passes x) → T (pixel x)
passes_pixel nan t = absurd (unfold le in t)
passes_pixel (inf true) t = absurd (unfold le in t)
passes_pixel (inf false) t = absurd (unfold le in t)
passes_pixel (fin s m e) t =
    let x = fin s m e in
    let y = add binary32 x shift in
    let z = sub binary32 y shift in
    let l = and_l (le lowest x) (le x highest && eq x z) t in
    let r = and_r (le lowest x) (le x highest && eq x z) t in
    let h = near s m e l (and_l (le x highest) (eq x z) r) in
    let g = shifted s m e h in
    let n = g.0 in
    let k = pos n -ℤ pos 12582912 in
    let w : Whole z k = sub_whole y shift (pos n) (pos 12582912) (whole_of_value y false n g.1) shift_whole (abs_between n 12582912 (2 ^ 24) g.2 (lit≤ tt)) in
    let v : Whole x k = eq_carries x z k (T_true (eq x z) (and_r (le x highest) (eq x z) r)) w in
    whole_pixel_lem x k v (le_of_mul-le-mul_right (le_trans (le_of_eq (sym v.0)) h) (down_pos e))

pub passes_is : (x : Float) → passes x ≡ pixel x
passes_is x = both_ways (passes x) (pixel x) (passes_pixel x) (pixel_passes x)

-- as a chain of tests comes to it
pub pixel_in : (x : Float) → le lowest x ≡ true → le x highest ≡ true → eq x (sub binary32 (add binary32 x shift) shift) ≡ pixel x
pixel_in x l h = rw (l, h) at (passes_is x)

pub pixel_high : (x : Float) → le lowest x ≡ true → le x highest ≡ false → false ≡ pixel x
pixel_high x l h = rw (l, h) at (passes_is x)

pub pixel_low : (x : Float) → le lowest x ≡ false → false ≡ pixel x
pixel_low x l = rw (l) at (passes_is x)
