-- The nodes above a node, and the sum of their places: how the walk over the rows finds an edge without looking at every lower node.
use Rattle.std.specs.Prelude.{Bool, cond, List, [], ◌∷◌, ℕ, zero, suc, get_or, Float}
use Rattle.geometry.specs.Floats.{◌⊕◌}
use Rattle.steps.specs.Noes.{holds}
use Rattle.edges.specs.Edges.{row_number}

-- of the nodes below j those that h takes, the highest first
unfoldable pub chosen : (ℕ → Bool) → ℕ → List ℕ
chosen h zero = []
chosen h (suc j) = cond (h j) (j ∷ chosen h j) (chosen h j)

-- the nodes whose run holds node i, the innermost first
abbrev pub above : List ℕ → ℕ → List ℕ
above ws i = chosen (holds ws i) i

-- what may be above node i: the node before it, and what is above that
abbrev pub before : List ℕ → ℕ → List ℕ
before ws zero = []
before ws (suc i) = i ∷ above ws i

-- without the first ones that p does not take
unfoldable pub trimmed : (ℕ → Bool) → List ℕ → List ℕ
trimmed p [] = []
trimmed p (k ∷ ks) = cond (p k) (k ∷ ks) (trimmed p ks)

-- the first d entries of an array, the last of them first
unfoldable pub stacked : List ℕ → ℕ → List ℕ
stacked up zero = []
stacked up (suc d) = get_or up d 0 ∷ stacked up d

-- to e are added the places of these nodes, in their order
unfoldable pub climb : (ℕ → Float) → List ℕ → Float → Float
climb place [] e = e
climb place (k ∷ ks) e = climb place ks (e ⊕ place k)

-- the near edge of node i, if these nodes are above it
unfoldable pub climbed : List Float → List ℕ → ℕ → ℕ → Float
climbed rs l f i = climb (λ (j : ℕ). row_number rs j f) l (row_number rs i f)
