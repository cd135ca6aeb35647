-- What the two loops of make_index are asked and what they leave.
use Rattle.std.specs.Prelude.{◌≡◌, List, map, ℕ, length, Float}
use Rattle.geometry.specs.Floats.{◌⊕◌}
use Rattle.edges.specs.Edges.{row_number, edge_by}

-- a slice as long as the bottoms
abbrev pub AsLong : List Float → List Float → Type 0
AsLong bs ls = length ls ≡ length bs

-- two slices as long as the list
pub record TwoAsLong (list : List ℕ) (ts bs : List Float) : Type 0 where
  pub tops : length ts ≡ length list
  pub bottoms : length bs ≡ length list

-- the edges as the code finds them, by going outward from each leaf
abbrev pub top_by : List ℕ → List Float → ℕ → Float
top_by ws rs i = edge_by ws rs 1 i

abbrev pub bottom_by : List ℕ → List Float → ℕ → Float
bottom_by ws rs i = edge_by ws rs 1 i ⊕ row_number rs i 3

-- an entry for each leaf of the list
pub record Edged (ws : List ℕ) (rs : List Float) (list : List ℕ) (ts bs : List Float) : Type 0 where
  pub tops_are : ts ≡ map (top_by ws rs) list
  pub bottoms_are : bs ≡ map (bottom_by ws rs) list
