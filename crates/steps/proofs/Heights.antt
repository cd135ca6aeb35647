-- Percent heights, computed: which height is a basis, and that a row stands only for a question with its own.
use Rattle.std.specs.Prelude.{Option, None, Some}
use mathlib.Core.Path.{◌≡◌, refl}
use mathlib.Core.Bool.{Bool, true, false}
use mathlib.Core.List.{List, [], ◌∷◌, map}
use Prim.Native.Nat.{ℕ}
use lib.Ieee.{Float, of_bits, to_bits, binary32}
use Rattle.geometry.specs.Geometry.{zero_f}
use Rattle.geometry.specs.declared.Rect.{Rect}
use Rattle.length.specs.declared.AvailableSpace.TheVariants.{MaxContent}
use Rattle.margin.specs.Margin.{no_margins}
use Rattle.steps.specs.Row.{Row, laid_row, no_probe}
use Rattle.steps.specs.HeightBasis.{basis_below}
use Rattle.steps.specs.Kept.{final_stands}
use Rattle.steps.specs.declared.LayoutInput.{LayoutInput}
use Rattle.steps.proofs.Computed.{steps}

abbrev eighty : Float
eighty = of_bits binary32 0x42a0_0000

abbrev ten : Float
ten = of_bits binary32 0x4120_0000

-- asked height, height basis, whether the asked height is definite
abbrev asks : Option Float → Option Float → Bool → LayoutInput
asks height basis flag =
    record { known = record { width = Some eighty; height = height }; parent = Some eighty; basis = basis; definiteHeight = flag; available = MaxContent; collapseStart = false; collapseEnd = false; nested = true }

-- nothing, or the bits
abbrev shown : Option Float → List ℕ
shown None = []
shown (Some x) = to_bits binary32 x ∷ []

-- a box with an inset of ten at its top: what it is asked, whether that is definite, and its known height
abbrev below : Option Float → Bool → Option Float → List ℕ
below height flag known = shown (basis_below (asks height None flag) (record { width = None; height = known }) (record { top = ten; right = zero_f; bottom = zero_f; left = zero_f }))

-- 80 asked or not gives 70; asked and not definite gives none
pub definite_heights : below None false (Some eighty) ∷ below (Some eighty) true (Some eighty) ∷ below (Some eighty) false (Some eighty) ∷ [] ≡ (0x428c_0000 ∷ []) ∷ (0x428c_0000 ∷ []) ∷ [] ∷ []
unfolding steps
definite_heights = refl

-- a height that only the content gives is not known, and no basis, flag or not
pub content_heights : below None false None ∷ below None true None ∷ [] ≡ [] ∷ [] ∷ []
unfolding steps
content_heights = refl

-- less insets, not floored: 0 gives -10
pub not_floored : below None false (Some zero_f) ≡ 0xc120_0000 ∷ []
unfolding steps
not_floored = refl

-- the row of a question with this basis
abbrev noted : Option Float → Row
noted basis = laid_row (asks None basis true) (record { size = record { width = eighty; height = zero_f }; top = no_margins; bottom = no_margins; through = false; baseline = None }) no_probe

-- it stands for its own basis alone; a basis of 0 is not none
pub own_basis : map (λ (b : Option Float). final_stands (asks None b true) (noted (Some zero_f))) (Some zero_f ∷ Some ten ∷ None ∷ []) ≡ true ∷ false ∷ false ∷ []
unfolding steps
own_basis = refl

pub no_basis_lem : map (λ (b : Option Float). final_stands (asks None b true) (noted None)) (Some zero_f ∷ Some ten ∷ None ∷ []) ≡ false ∷ false ∷ true ∷ []
unfolding steps
no_basis_lem = refl
