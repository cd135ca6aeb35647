-- Whole pixels and their differences are i32: a number that went through an i32 is itself again.
--     sub_fits      a difference is an i32
--     read-back     what whole_pixel gave
--     read_between  what pixels_between gave
use mathlib.Core.Path.{◌≡◌, refl, sym, subst, ◌∙◌}
use mathlib.Core.Bool.{Bool, true, false, cond}
use Prim.Native.Nat.{ℕ, zero, suc, ◌+◌, ◌-◌, ◌^◌, ◌<◌, ◌≤◌}
use native.Mathlib.Omega.{arith}
use lib.Dec.{ltb}
use lib.IntN.{ℤ, pos, negsuc, neg_ℤ, nat_abs, sub_ℕ, ◌+ℤ◌, ◌-ℤ◌}
use lib.Signed.{mag}
use lib.Ieee.{Float}
use mir.Syntax.{w32}
use mir.Val.{SFits, to_z, of_z}
use mir.ValLaws.{to_z-of_z}
use borrow.Author.Tests.{ltb-true}
use Rattle.pixel.specs.Pixel.{whole_pixel}
use Rattle.pixel.specs.Value.{Edge}
use Rattle.pixel.proofs.Value.{pixel_in}

-- ---- sizes of sums

sub_size : (a b n : ℕ) → a ≤ n → b ≤ n → nat_abs (sub_ℕ a b) ≤ n
sub_size a b n h k = go (ltb a b) refl
  where
    go : (t : Bool) → ltb a b ≡ t → nat_abs (cond t (negsuc (b - suc a)) (pos (a - b))) ≤ n
    go true e =
        let l : a < b = ltb-true a b e in
        omega arith
    go false e = omega arith

add_size_lem : (x y : ℤ) (n : ℕ) → nat_abs x ≤ n → nat_abs y ≤ n → nat_abs (x +ℤ y) ≤ n + n
add_size_lem (pos a) (pos b) n h k = omega arith
add_size_lem (pos a) (negsuc b) n h k =
    let s = sub_size a (suc b) n h k in
    omega (arith, s)
add_size_lem (negsuc a) (pos b) n h k =
    let s = sub_size b (suc a) n k h in
    omega (arith, s)
add_size_lem (negsuc a) (negsuc b) n h k = omega arith

neg_size : (y : ℤ) → nat_abs (neg_ℤ y) ≡ nat_abs y
neg_size (pos zero) = refl
neg_size (pos (suc n)) = refl
neg_size (negsuc n) = refl

mag_in : (z : ℤ) (n : ℕ) → nat_abs z ≤ n → n < 2 ^ 31 → mag z < 2 ^ 31
mag_in (pos a) n h k = omega arith
mag_in (negsuc a) n h k = omega arith

pub sub_fits : (x y : ℤ) → nat_abs x ≤ 2 ^ 24 → nat_abs y ≤ 2 ^ 24 → SFits w32 (x -ℤ y)
sub_fits x y h k = record { sfits = mag_in (x -ℤ y) (2 ^ 24 + 2 ^ 24) (add_size_lem x (neg_ℤ y) (2 ^ 24) h (subst (λ (n : ℕ). n ≤ 2 ^ 24) (sym (neg_size y)) k)) (omega arith) }

-- what a call of whole_pixel gave, read back
pub read_back_lem : (x : Float) (r : ℤ) → Edge x → r ≡ whole_pixel x → to_z w32 (of_z w32 r) ≡ whole_pixel x
read_back_lem x r g e =
    let h : nat_abs r ≤ 2 ^ 24 = subst (λ (z : ℤ). nat_abs z ≤ 2 ^ 24) (sym e) (pixel_in x g) in
    to_z-of_z w32 r (record { sfits = mag_in r (2 ^ 24) h (omega arith) }) ∙ e

pub read_between : (x y : Float) (r : ℤ) → Edge x → Edge y → r ≡ whole_pixel y -ℤ whole_pixel x → to_z w32 (of_z w32 r) ≡ whole_pixel y -ℤ whole_pixel x
read_between x y r g h e = to_z-of_z w32 r (subst (λ (z : ℤ). SFits w32 z) (sym e) (sub_fits (whole_pixel y) (whole_pixel x) (pixel_in y h) (pixel_in x g))) ∙ e
