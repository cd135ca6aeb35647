-- Computed of 3: which numbers are a ratio beside a fraction, and beside which fields; which align words, safeties and baselines. Of 4: how far a baseline may reach. Of 8: which numbers of a row are tested.
use mathlib.Core.Path.{◌≡◌, refl}
use mathlib.Core.Bool.{Bool, true, false}
use mathlib.Core.List.{List, [], ◌∷◌, ◌++◌, map}
use Prim.Native.Nat.{ℕ, ◌+◌, ◌*◌, ◌-◌, ◌^◌}
use lib.ListN.{replicate}
use lib.Ieee.{eq, lt, le, neg, of_bits, binary32}
use Rattle.geometry.specs.Geometry.{zero_f}
use Rattle.limits.specs.Limits.{limit, too_large, in_range}
use Rattle.style.specs.Codes.{unit_of}
use Rattle.style.specs.Style.{word_at, number_at}
use Rattle.steps.specs.Scan.{scan}
use Rattle.steps.specs.Noes.{ratio_beside_fraction, bad_field, signed, most_of, bad_ratio, bad_word, bad_safety, bad_baseline, bad_align, bad_numbers, bad_row}

-- one node whose field f is a fraction, with the ratio of these bits
abbrev refused : ℕ → ℕ → Bool
refused b f = ratio_beside_fraction (1 ∷ 0 ∷ 2 * 4 ^ f ∷ 0 ∷ []) (replicate 22 zero_f ++ (of_bits binary32 b ∷ replicate 5 zero_f)) 0

-- 0 and -0 are none; 1 and NaN are one
pub ratios : map (λ (b : ℕ). refused b 1) (0 ∷ 0x8000_0000 ∷ 0x3f80_0000 ∷ 0x7fc0_0000 ∷ []) ≡ false ∷ false ∷ true ∷ true ∷ []
unfolding ratio_beside_fraction word_at number_at unit_of eq lt of_bits
ratios = refl

-- of the first seven fields beside 1, 3 and 5
pub heights : map (refused 0x3f80_0000) (0 ∷ 1 ∷ 2 ∷ 3 ∷ 4 ∷ 5 ∷ 6 ∷ []) ≡ false ∷ true ∷ false ∷ true ∷ false ∷ true ∷ false ∷ []
unfolding ratio_beside_fraction word_at number_at unit_of eq lt of_bits
heights = refl

-- a style word with these two bits at 10, this word at 13
abbrev aligned : ℕ → ℕ → ℕ
aligned plain word = plain * 2 ^ 10 + word * 2 ^ 13

-- none, and the four words; 5 to 7 are unknown
pub words : map (λ (k : ℕ). bad_align (aligned 0 k)) (0 ∷ 1 ∷ 2 ∷ 3 ∷ 4 ∷ 5 ∷ 6 ∷ 7 ∷ []) ≡ false ∷ false ∷ false ∷ false ∷ false ∷ true ∷ true ∷ true ∷ []
unfolding bad_align bad_baseline bad_word bad_safety
words = refl

-- bits 10-11 without a word, and beside one
pub beside_a_word : map (λ (k : ℕ). bad_align (aligned k 0)) (0 ∷ 1 ∷ 2 ∷ 3 ∷ []) ++ map (λ (k : ℕ). bad_align (aligned k 4)) (0 ∷ 1 ∷ 2 ∷ 3 ∷ [])
    ≡ false ∷ false ∷ false ∷ false ∷ false ∷ true ∷ true ∷ true ∷ []
unfolding bad_align bad_baseline bad_word bad_safety
beside_a_word = refl

-- safe: beside normal, start, center and end, then beside the words 1 and 3
pub safeties : map (λ (w : ℕ). bad_align (w + 2 ^ 17)) (aligned 0 0 ∷ aligned 1 0 ∷ aligned 2 0 ∷ aligned 3 0 ∷ aligned 0 1 ∷ aligned 0 3 ∷ []) ≡ true ∷ true ∷ false ∷ false ∷ true ∷ true ∷ []
unfolding bad_align bad_baseline bad_word bad_safety
safeties = refl

-- bits 12, 16, 18 and 31 alone, of a block
pub unused_bits : map (λ (k : ℕ). bad_align (2 ^ k)) (12 ∷ 16 ∷ 18 ∷ 31 ∷ []) ≡ false ∷ true ∷ true ∷ true ∷ []
unfolding bad_align bad_baseline bad_word bad_safety
unused_bits = refl

-- bit 16 of a block, a leaf, a hidden node
pub baselines : map (λ (kind : ℕ). bad_align (2 ^ 16 + kind)) (0 ∷ 1 ∷ 2 ∷ []) ≡ true ∷ false ∷ true ∷ []
unfolding bad_align bad_baseline bad_word bad_safety
baselines = refl

-- one node, 10 high, with the baseline of these bits
abbrev baseline_refused : ℕ → Bool
baseline_refused b = bad_numbers (1 ∷ 0 ∷ 0 ∷ 0 ∷ []) (replicate 26 zero_f ++ (of_bits binary32 0x4120_0000 ∷ of_bits binary32 b ∷ [])) 0

-- 0, -0, 4 and 10 are in range; the next above 10, -1 and NaN are not, whatever bit 16 says
pub baseline_range : map baseline_refused (0 ∷ 0x8000_0000 ∷ 0x4080_0000 ∷ 0x4120_0000 ∷ 0x4120_0001 ∷ 0xbf80_0000 ∷ 0x7fc0_0000 ∷ []) ≡ false ∷ false ∷ false ∷ false ∷ true ∷ true ∷ true ∷ []
unfolding bad_numbers bad_field signed most_of bad_ratio in_range word_at number_at unit_of scan eq lt le neg of_bits
baseline_range = refl

-- a row whose number k alone is too large
abbrev large_at : ℕ → Bool
large_at k = bad_row (replicate k zero_f ++ (limit ∷ replicate (15 - k) zero_f)) 0

-- all sixteen are tested, the next row's first is not
pub last_tested : map large_at (0 ∷ 13 ∷ 14 ∷ 15 ∷ 16 ∷ []) ≡ true ∷ true ∷ true ∷ true ∷ false ∷ []
unfolding bad_row scan too_large lt neg of_bits
last_tested = refl
