-- The list of the profile, reason by reason, on a page of a root and a leaf; and what looks like a reason and is none. All computed.
use Rattle.std.specs.Prelude.{◌≡◌, refl, false, List, [], ◌∷◌, map, ℕ, replicate, Option, None, Some}
use Rattle.std.specs.Float.Ieee.{of_bits}
use Rattle.std.specs.Float.{binary32}
use Rattle.geometry.specs.Geometry.{zero_f}
use Rattle.length.specs.declared.AvailableSpace.TheVariants.{MaxContent}
use Rattle.steps.specs.Question.{root_input}
use Rattle.steps.specs.declared.LayoutInput.{LayoutInput}
use Rattle.steps.proofs.Computed.{calls}
use Rattle.facts.specs.Pages.{Given, given, numbers_of}
use Rattle.profile.specs.Profile.{whole_sizes, whole_sides, plain_style, profile_style, of_profile, outside, else_at, profile_spot}

-- style and first units of the root, of the leaf, the numbers that are not 0, and the parent width that is asked, as bits
pub record Page : Type 0 where
  pub root : ℕ
  pub root_units : ℕ
  pub leaf : ℕ
  pub leaf_units : ℕ
  pub numbers : List Given
  pub parent : ℕ

unfoldable pub asking : ℕ → LayoutInput
asking b =
    root_input (record { known = record { width = None; height = None }; parent = of_bits binary32 b; definiteHeight = false; available = MaxContent; collapseStart = false; collapseEnd = false })

unfoldable pub spot_of : Page → Option ℕ
spot_of p =
    profile_spot (2 ∷ p.root ∷ p.root_units ∷ 0x55 ∷ 1 ∷ p.leaf ∷ p.leaf_units ∷ 0x55 ∷ []) (numbers_of p.numbers (replicate 56 zero_f)) (asking p.parent)

-- margins, padding and border are pixels; to that come the fields with a unit of their own
abbrev pixels : ℕ
pixels = 0x555_5000

abbrev styled : ℕ → Page
styled w = record { root = w; root_units = pixels; leaf = 1; leaf_units = pixels; numbers = []; parent = 0 }

abbrev united : ℕ → List Given → Page
united u xs = record { root = 0; root_units = pixels; leaf = 1; leaf_units = u; numbers = xs; parent = 0 }

abbrev numbered : ℕ → ℕ → ℕ → Page
numbered i f b = united pixels (given i f b ∷ [])

abbrev half : ℕ
half = 0x3f00_0000

-- a fraction; half a pixel; 1,025; a ratio; half a scrollbar; halves in 24 to 27, of a block and without bit 16 too; center, space-around, space-evenly;
-- a child with two auto side margins; half a pixel that is asked
pub reasons :
    map spot_of
    (united 0x555_5002 []
    ∷ united 0x555_5001 (given 1 0 half ∷ [])
    ∷ united 0x555_5001 (given 1 0 0x4480_2000 ∷ [])
    ∷ numbered 0 22 0x3f80_0000
    ∷ numbered 1 23 half
    ∷ numbered 0 24 half
    ∷ numbered 1 25 half
    ∷ numbered 0 26 half
    ∷ numbered 1 27 half
    ∷ styled 0x800
    ∷ styled 0x4000
    ∷ styled 0x6000
    ∷ united 0x551_1000 []
    ∷ record { root = 0; root_units = pixels; leaf = 1; leaf_units = pixels; numbers = []; parent = half }
    ∷ [])
    ≡ Some 1 ∷ Some 1 ∷ Some 1 ∷ Some 0 ∷ Some 1 ∷ Some 0 ∷ Some 1 ∷ Some 0 ∷ Some 1 ∷ Some 0 ∷ Some 0 ∷ Some 0 ∷ Some 1 ∷ Some 2 ∷ []
unfolding calls profile_spot else_at outside of_profile profile_style whole_sizes whole_sides plain_style numbers_of root_input asking spot_of
reasons = refl

-- half in an auto field; two auto side margins of the root; -0, 1,024 and -1,024; space-between, stretch, end, safe end
pub no_reasons :
    map spot_of
    (numbered 1 0 half
    ∷ record { root = 0; root_units = 0x551_1000; leaf = 1; leaf_units = pixels; numbers = []; parent = 0 }
    ∷ numbered 1 6 0x8000_0000
    ∷ numbered 1 10 0x4480_0000
    ∷ numbered 1 6 0xc480_0000
    ∷ styled 0x2000
    ∷ styled 0x8000
    ∷ styled 0xc00
    ∷ styled 0x2_0c00
    ∷ [])
    ≡ replicate 9 None
unfolding calls profile_spot else_at outside of_profile profile_style whole_sizes whole_sides plain_style numbers_of root_input asking spot_of
no_reasons = refl
