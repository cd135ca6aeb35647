-- Worked: the gap of a class of six margins; and a page with a ratio, where the gap is not the sum of the class.
use Rattle.std.specs.Prelude.{◌≡◌, refl, ◌⊎◌, Bool, true, false, List, [], ◌∷◌, map, ℕ, set, replicate, Float, None, Some}
use Rattle.std.proofs.Common.{inl, inr}
use Rattle.std.specs.Float.Ieee.{lt, add, of_bits, to_bits}
use Rattle.std.specs.Float.{binary32}
use Rattle.geometry.specs.Geometry.{zero_f}
use Rattle.util.specs.Math.{larger, smaller}
use Rattle.length.specs.declared.AvailableSpace.TheVariants.{MaxContent}
use Rattle.style.specs.Style.{number_place}
use Rattle.tree.specs.Tree.{Tree, node, none, more}
use Rattle.margin.specs.Margin.{no_margins, set_of, joined, joined_with, sum_of}
use Rattle.steps.specs.Question.{root_input}
use Rattle.steps.specs.declared.Question.{Question}
use Rattle.steps.proofs.Computed.{steps}
use Rattle.classes.specs.Margins.{Box, Top, Bottom, MarT, self, back, val_t, Values}
use Rattle.classes.specs.Spots.{SpotT, ClassOf}
use Rattle.classes.specs.Links.{six, fourth}
use Rattle.classes.specs.Stacking.{top_set, gap_at}
use Rattle.classes.specs.Engine.{plain_gap, pair_of}
use Rattle.classes.specs.Real.{box_t}
use Rattle.classes.specs.OnTables.{boxes_on}

abbrev bits : ℕ → Float
bits n = of_bits binary32 n

-- the gap above box 4 of the six margins (Links.antt) is 20 - 5, by J's cursor and by the class
pub six_gap : (to_bits binary32 (gap_at six fourth) ≡ 0x4170_0000) × (to_bits binary32 (plain_gap six fourth) ≡ 0x4170_0000)
unfolding no_margins set_of joined joined_with sum_of larger smaller lt add of_bits to_bits top_set plain_gap pair_of
six_gap = (refl, refl)

-- ---- a bridge: a box with a ratio whose children are all through

-- width 100; 0 > [1: top margin 10, ratio 10 > [2: empty]], [3: height 10]
unfoldable pub bridge_words : List ℕ
bridge_words = 4 ∷ 0 ∷ 0x550_0000 ∷ 0x55 ∷ 2 ∷ 0 ∷ 0x550_1000 ∷ 0x55 ∷ 1 ∷ 0 ∷ 0x550_0000 ∷ 0x55 ∷ 1 ∷ 0 ∷ 0x550_0004 ∷ 0x55 ∷ []

unfoldable pub bridge_numbers : List ℕ
bridge_numbers = set (set (set (replicate 112 0) (number_place 4 1 6) 0x4120_0000) (number_place 4 1 22) 0x4120_0000) (number_place 4 3 1) 0x4120_0000

unfoldable pub bridge_question : Question
bridge_question =
    record { known = record { width = Some (bits 0x42c8_0000); height = None }; parent = bits 0x42c8_0000; definiteHeight = false; available = MaxContent; collapseStart = false; collapseEnd = false }

abbrev pub ten : Float
ten = bits 0x4120_0000

abbrev low : ℕ → Float → Float → Bool → Bool → Bool → Float → Box
low i height above start end through gap =
    record { node = i; height = height; above = above; under = zero_f; start = start; end = end; through = through; gap = gap; passed = false }

-- box 1 has own start and own end, and a height of 10 by its ratio: it is not through, though its child is
abbrev pub bridge : Tree Box
bridge =
    node (low 0 (bits 0x41f0_0000) zero_f false false false zero_f) (
    more (node (low 1 ten ten true true false ten) (more (node (record { node = 2; height = zero_f; above = zero_f; under = zero_f; start = true; end = true; through = true; gap = zero_f; passed = true }) none) none)) (
    more (node (low 3 ten zero_f true false false zero_f) none) none))

pub bridge_page : boxes_on bridge_words (map (of_bits binary32) bridge_numbers) (root_input bridge_question) ≡ bridge
unfolding steps root_input box_t bridge_words bridge_numbers bridge_question
bridge_page = refl

abbrev pub third : SpotT bridge
third = inr (inr (inl tt))

-- the class of box 3's top holds box 1's top, by way of the child
pub one_class : ClassOf bridge third (inr (inl (inl Top)))
one_class =
    back (inr (inl (inr (inl (inl Top))))) (inr (inl (inl Top)))
    (back (inr (inl (inr (inl (inl Bottom))))) (inr (inl (inr (inl (inl Top)))))
    (back (inr (inl (inl Bottom))) (inr (inl (inr (inl (inl Bottom))))) (back (inr (inr (inl (inl Top)))) (inr (inl (inl Bottom))) self (tt, tt)) (refl, (tt, tt)))
    refl)
    (refl, tt)

-- so its largest is 10; but J gave box 3 the gap 0
pub values : (m : MarT bridge) → (val_t bridge m ≡ zero_f) ⊎ (val_t bridge m ≡ ten)
values (inl Top) = inl refl
values (inl Bottom) = inl refl
values (inr (inl (inl Top))) = inr refl
values (inr (inl (inl Bottom))) = inl refl
values (inr (inl (inr (inl (inl Top))))) = inl refl
values (inr (inl (inr (inl (inl Bottom))))) = inl refl
values (inr (inr (inl (inl Top)))) = inl refl
values (inr (inr (inl (inl Bottom)))) = inl refl
values (inr (inl (inr (inl (inr x))))) = elim x [ ]
values (inr (inl (inr (inr x)))) = elim x [ ]
values (inr (inr (inl (inr x)))) = elim x [ ]
values (inr (inr (inr x))) = elim x [ ]

abbrev pub ClassValues : Float → Type 0
ClassValues x = Values (val_t bridge) (ClassOf bridge third) x
