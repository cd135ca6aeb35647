-- Worked values of the nearest whole pixel: where the other ways to round part from it. Computed.
use Rattle.std.specs.Prelude.{◌≡◌, refl, List, [], ◌∷◌, map, ℕ, ℤ, pos, negsuc}
use Rattle.std.specs.Float.Ieee.{of_bits}
use Rattle.std.specs.Float.{binary32}
use Rattle.pixel.specs.Pixel.{whole_pixel}

abbrev pixels : List ℕ → List ℤ
pixels l = map (λ (b : ℕ). whole_pixel (of_bits binary32 b)) l

-- 0.5, 1.5, 2.5 go up to 1, 2, 3; so do -0.5, -1.5, -2.5, to 0, -1, -2
pub halves_go_up : pixels (0x3f00_0000 ∷ 0x3fc0_0000 ∷ 0x4020_0000 ∷ 0xbf00_0000 ∷ 0xbfc0_0000 ∷ 0xc020_0000 ∷ []) ≡ pos 1 ∷ pos 2 ∷ pos 3 ∷ pos 0 ∷ negsuc 0 ∷ negsuc 1 ∷ []
unfolding whole_pixel of_bits
halves_go_up = refl

-- 0.49999997 goes to 0 and 8388609 stays, though their sums with a half, as f32, are 1 and 8388610
pub no_sum_with_a_half : pixels (0x3eff_ffff ∷ 0x4b00_0001 ∷ []) ≡ pos 0 ∷ pos 8388609 ∷ []
unfolding whole_pixel of_bits
no_sum_with_a_half = refl

-- +0, -0, 8388607.5, -8388607.5, 16777215, -16777215, the least and the largest subnormal
pub ends : pixels (0 ∷ 0x8000_0000 ∷ 0x4aff_ffff ∷ 0xcaff_ffff ∷ 0x4b7f_ffff ∷ 0xcb7f_ffff ∷ 1 ∷ 0x807f_ffff ∷ []) ≡ pos 0 ∷ pos 0 ∷ pos 8388608 ∷ negsuc 8388606 ∷ pos 16777215 ∷ negsuc 16777214 ∷ pos 0 ∷ pos 0 ∷ []
unfolding whole_pixel of_bits
ends = refl
