-- The sums (4), (5) and (6) of document 01's checked pages, worked out by the checker.
use Rattle.std.specs.Prelude.{◌≡◌, refl, List, [], ◌∷◌, map, ℕ, Float}
use Rattle.std.specs.Float.Ieee.{add, lt, of_bits, to_bits}
use Rattle.std.specs.Float.{binary32}
use Rattle.util.specs.Math.{larger, smaller}
use Rattle.margin.specs.Margin.{no_margins, set_of, joined, joined_with, sum_of}
use Rattle.margin.specs.declared.CollapsibleMarginSet.{CollapsibleMarginSet}

-- margins taken into a set, one after the other
abbrev taken : CollapsibleMarginSet → List ℕ → CollapsibleMarginSet
taken s [] = s
taken s (m ∷ ms) = taken (joined_with s (of_bits binary32 m)) ms

-- bits of the margins, bits of their sum
abbrev cases : List (List ℕ × ℕ)
cases =
    (0x41a0_0000 ∷ 0x41f0_0000 ∷ [], 0x41f0_0000)
    ∷ (0x41a0_0000 ∷ 0xc0a0_0000 ∷ [], 0x4170_0000)
    ∷ (0xc1a0_0000 ∷ 0xc0a0_0000 ∷ [], 0xc1a0_0000)
    ∷ []

pub worked : map (λ (c : List ℕ × ℕ). to_bits binary32 (sum_of (taken no_margins c.0))) cases ≡ map (λ (c : List ℕ × ℕ). c.1) cases
unfolding no_margins set_of joined joined_with sum_of larger smaller lt add of_bits to_bits
worked = refl
