-- The pages of the examples: one shape, and numbers of which one is changed at a time.
use Rattle.std.specs.Prelude.{◌≡◌, refl, Bool, true, false, cond, List, ℕ, ◌%◌, get_or, set, replicate, ltb, Float}
use Rattle.std.proofs.Common.{sym, ap, ◌∙◌, length-set, get_or-set_other, ltb-true}
use Rattle.std.specs.Float.Ieee.{of_bits}
use Rattle.std.specs.Float.{binary32}
use Rattle.geometry.specs.Geometry.{zero_f}
use Rattle.style.specs.Style.{plane_of, number_place, number_at}
use Rattle.style.specs.Planes.{place_node}
use Rattle.laws.specs.Tables.{SameAt, SameShape}
use Rattle.laws.specs.Examples.{floats, probe_was}

-- a root of unknown width (0) over a block A (1) with a leaf (2), and a box (3) of width 60 that is 10 high
unfoldable pub low : List Float
low = floats probe_was

-- the box grows to 20, then to 30
unfoldable pub tall : List Float
tall = set low (number_place 4 3 1) (of_bits binary32 0x41a0_0000)

unfoldable pub taller : List Float
taller = set tall (number_place 4 3 1) (of_bits binary32 0x41f0_0000)

-- beside `tall`: the leaf, which is below A, is 9 high and not 7
unfoldable pub leaf_high : List Float
leaf_high = set tall (number_place 4 2 26) (of_bits binary32 0x4110_0000)

-- lent rows and marks of four nodes
abbrev pub no_rows : List Float
no_rows = replicate 64 zero_f

abbrev pub no_marks : List ℕ
no_marks = replicate 8 0

-- a number of node j is changed, of k nodes: every other node is the same
pub changed : (ws : List ℕ) (xs : List Float) (k j m : ℕ) (v : Float) (i : ℕ) → plane_of xs ≡ k → m % k ≡ j → (i ≡ j → ⊥) → SameAt ws xs ws (set xs m v) i
unfolding number_at
changed ws xs k j m v i e h o = record { words = λ w l. refl; numbers = λ f l. rw (length-set xs m v, e) (go f (ltb i k) refl) }
  where
    go : (f : ℕ) (b : Bool) → ltb i k ≡ b → cond b (get_or xs (number_place k i f) zero_f) zero_f ≡ cond b (get_or (set xs m v) (number_place k i f) zero_f) zero_f
    go f true t = sym (get_or-set_other xs m (number_place k i f) v zero_f (λ p. o (sym (place_node f (ltb-true i k t)) ∙ ap (λ (x : ℕ). x % k) p ∙ h)))
    go f false t = refl

-- the examples have four nodes
pub four_low : plane_of low ≡ 4
unfolding low probe_was
four_low = refl

pub four_tall : plane_of tall ≡ 4
unfolding low tall probe_was
four_tall = refl

pub same_shape : (ws : List ℕ) → SameShape ws ws
same_shape ws = record { nodes = refl; sizes = λ i h. refl }
