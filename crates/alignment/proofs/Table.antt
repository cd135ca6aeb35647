-- The rule computed: each word, unsafe and safe, with 10 pixels of room and with 10 too few.
use Rattle.std.specs.Prelude.{Option, None, Some}
use mathlib.Core.Path.{◌≡◌, refl}
use mathlib.Core.Bool.{Bool, true, false}
use mathlib.Core.List.{List, [], ◌∷◌, map}
use Prim.Native.Nat.{ℕ}
use lib.Ieee.{Float, of_bits, to_bits, binary32, lt, div}
use Rattle.style.specs.declared.AlignContent.{AlignContent}
use Rattle.style.specs.declared.AlignContent.TheVariants.{Normal, Start, Center, End, SpaceBetween, SpaceAround, SpaceEvenly, Stretch}
use Rattle.alignment.specs.Align.{room_of, align_shift}

-- the bits of a shift, 1 for none
abbrev shown : Option Float → ℕ
shown None = 1
shown (Some x) = to_bits binary32 x

-- unsafe and safe with 10, unsafe and safe with -10
abbrev shifts : AlignContent → List ℕ
shifts a =
    map shown
    (align_shift a false (of_bits binary32 0x4120_0000)
    ∷ align_shift a true (of_bits binary32 0x4120_0000)
    ∷ align_shift a false (of_bits binary32 0xc120_0000)
    ∷ align_shift a true (of_bits binary32 0xc120_0000) ∷ [])

abbrev nothing : List ℕ
nothing = 1 ∷ 1 ∷ 1 ∷ 1 ∷ []

pub words : map shifts (Normal ∷ Start ∷ Center ∷ End ∷ SpaceBetween ∷ SpaceAround ∷ SpaceEvenly ∷ Stretch ∷ [])
    ≡ nothing
    ∷ nothing
    ∷ (0x40a0_0000 ∷ 0x40a0_0000 ∷ 0xc0a0_0000 ∷ 0 ∷ [])
    ∷ (0x4120_0000 ∷ 0x4120_0000 ∷ 0xc120_0000 ∷ 0 ∷ [])
    ∷ nothing
    ∷ (0x40a0_0000 ∷ 0x40a0_0000 ∷ 0 ∷ 0 ∷ [])
    ∷ (0x40a0_0000 ∷ 0x40a0_0000 ∷ 0 ∷ 0 ∷ [])
    ∷ nothing
    ∷ []
unfolding align_shift room_of of_bits to_bits lt div
words = refl
