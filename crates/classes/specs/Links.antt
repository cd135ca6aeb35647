-- Each of the four links, on one tree of boxes: six margins that are one class.
use Rattle.std.specs.Prelude.{refl, Bool, true, false, ℕ}
use Rattle.std.proofs.Common.{inl, inr}
use Rattle.std.specs.Float.Ieee.{of_bits}
use Rattle.std.specs.Float.{binary32}
use Rattle.geometry.specs.Geometry.{zero_f}
use Rattle.tree.specs.Tree.{Tree, node, none, more}
use Rattle.classes.specs.Margins.{Box, Top, Bottom, self, on, back}
use Rattle.classes.specs.Spots.{SpotT, ClassOf}

abbrev box : ℕ → ℕ → ℕ → Bool → Bool → Bool → Box
box i a u start end through = record { node = i; height = zero_f; above = of_bits binary32 a; under = of_bits binary32 u; start = start; end = end; through = through; gap = zero_f; passed = false }

-- 0 > [1: bottom 10, own end > [2: bottom 7]], [3: top 20, bottom -5, through], [4: top 1, own start > [5: top 3]]
abbrev pub six : Tree Box
six =
    node (box 0 0 0 false false false) (
    more (node (box 1 0 0x4120_0000 false true false) (more (node (box 2 0 0x40e0_0000 false false false) none) none)) (
    more (node (box 3 0x41a0_0000 0xc0a0_0000 true true true) none) (
    more (node (box 4 0x3f80_0000 0 true false false) (more (node (box 5 0x4040_0000 0 false false false) none) none)) none)))

abbrev pub fourth : SpotT six
fourth = inr (inr (inr (inr (inl tt))))

-- box 4's class, one link after the other: 4 top, 5 top (own start); 3 bottom (next sibling), 3 top (through); 1 bottom (next sibling), 2 bottom (own end)
pub own_start : ClassOf six fourth (inr (inr (inr (inl (inr (inl (inl Top)))))))
own_start = on (inr (inr (inr (inl (inl Top))))) (inr (inr (inr (inl (inr (inl (inl Top))))))) self (refl, tt)

pub next_sibling : ClassOf six fourth (inr (inr (inl (inl Bottom))))
next_sibling = back (inr (inr (inr (inl (inl Top))))) (inr (inr (inl (inl Bottom)))) self (tt, tt)
