-- A whole number up to 1024 in size, tested with two sums: x is one exactly where (x + 3 * 2 ^ 22) - 3 * 2 ^ 22 is x, since an f32 from 2 ^ 23 on has no fraction. Assumes nothing.
use Rattle.std.specs.Prelude.{refl, ◌&&◌, T, pos, negsuc, nat_abs, ◌+ℤ◌, Float}
use Rattle.std.proofs.Common.{sym, ◌∙◌, subst, le_trans, arith, lit≤}
use Prim.Native.Nat.{ℕ, ◌+◌, ◌-◌, ◌^◌, ◌≤◌}
use Rattle.std.proofs.Math.IntN.{+ℤ-neg_ℤ_cancel}
use Rattle.std.specs.Float.{binary32}
use Rattle.std.specs.Float.Ieee.{add, sub, le, eq}
use Rattle.std.specs.Float.Ieee.Fits.{and_i}
use Rattle.whole.specs.Whole.{Whole, small, add_whole, sub_whole}
use Rattle.whole.specs.Compare.{le_whole}
use Rattle.whole.specs.More.{same_number, abs_add}
use Rattle.whole.specs.Test.{pixel, number, pixel_whole}
use Rattle.whole.specs.Coarse.{lowest, highest, shift, passes, shift_whole, lowest_le, highest_le, true_t}

pub pixel_passes : (x : Float) → T (pixel x) → T (passes x)
pixel_passes x t =
    let k = number x in
    let w = (pixel_whole x t).0 in
    let h = (pixel_whole x t).1 in
    let y = add binary32 x shift in
    let z = sub binary32 y shift in
    let c = pos 12582912 in
    let a : Whole y (k +ℤ c) = add_whole x shift k c w shift_whole (le_trans (abs_add k c) (room (nat_abs k) h)) in
    let b : Whole z k = subst (Whole z) (+ℤ-neg_ℤ_cancel k c) (sub_whole y shift (k +ℤ c) c a shift_whole (subst small (sym (+ℤ-neg_ℤ_cancel k c)) (le_trans h (lit≤ tt)))) in
    and_i (le lowest x) (le x highest && eq x z) (true_t (le lowest x) (le_whole lowest x (negsuc 1023) k (refl, refl) w ∙ lowest_le k h))
    (and_i (le x highest) (eq x z) (true_t (le x highest) (le_whole x highest k (pos 1024) w (refl, refl) ∙ highest_le k h)) (true_t (eq x z) (same_number x z k w b)))
  where
    room : (n : ℕ) → n ≤ 1024 → n + 12582912 ≤ 2 ^ 24
    room n h = omega arith
