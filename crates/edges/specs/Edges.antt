-- Edges in root coordinates: a node's place with the places of its parents added, innermost first, the root's too.
use Rattle.std.specs.Prelude.{◌≡◌, Bool, true, cond, List, [], ◌∷◌, ◌++◌, map, ℕ, zero, suc, ◌+◌, ◌*◌, ◌<◌, get_or, Float}
use Rattle.geometry.specs.Floats.{◌⊕◌}
use Rattle.geometry.specs.Geometry.{zero_f}
use Rattle.style.specs.Style.{word_at}
use Rattle.tree.specs.Tree.{Tree, Forest, node, none, more}
use Rattle.tree.specs.Table.{Entry, parse_t}
use Rattle.steps.specs.Page.{nodes_in}
use Rattle.steps.specs.Noes.{holds}

-- number f of row i, 0 past the end: 0 is x, 1 is y, 2 and 3 are width and height
abbrev pub row_number : List Float → ℕ → ℕ → Float
row_number rs i f = get_or rs (16 * i + f) zero_f

-- the near edges of a tree's nodes in preorder: each node's place, and what is below it moved by that place
unfoldable mutual
  pub edges_t : {A : Type 0} → (A → Float) → Tree A → List Float
  edges_t place (node a ks) = place a ∷ map (λ e. e ⊕ place a) (edges_f place ks)

  pub edges_f : {A : Type 0} → (A → Float) → Forest A → List Float
  edges_f place none = []
  edges_f place (more t ts) = edges_t place t ++ edges_f place ts

-- a node as the table has it: its size and its number
abbrev pub numbered : List ℕ → ℕ → Entry ℕ
numbered ws i = record { size = word_at ws i 0; label = i }

-- the page's tree, with the node numbers as labels
unfoldable pub shape_of : List ℕ → Tree ℕ
shape_of ws = parse_t (numbered ws) (nodes_in ws)

-- the near edge of node i on the page, by number f of the rows
unfoldable pub edge_at : List ℕ → List Float → ℕ → ℕ → Float
edge_at ws rs f i = get_or (edges_t (λ (j : ℕ). row_number rs j f) (shape_of ws)) i zero_f

-- to e are added, from node j - 1 down to node 0, the places of those that hold it
unfoldable pub outward : (ℕ → Bool) → (ℕ → Float) → ℕ → Float → Float
outward holder place zero e = e
outward holder place (suc j) e = outward holder place j (cond (holder j) (e ⊕ place j) e)

-- the same edge without a tree: the holders of node i are the lower nodes whose run holds it
unfoldable pub edge_by : List ℕ → List Float → ℕ → ℕ → Float
edge_by ws rs f i = outward (holds ws i) (λ (j : ℕ). row_number rs j f) i (row_number rs i f)

-- j is node i, or a lower node whose run holds it
pub data AtOrAbove (ws : List ℕ) (i : ℕ) : ℕ → Type 0 where
  itself : AtOrAbove ws i i
  holder : (j : ℕ) → j < i → holds ws i j ≡ true → AtOrAbove ws i j

-- number f is the same in both row tables, at node i and at all above it
abbrev pub SamePlaces : List ℕ → List Float → List Float → ℕ → ℕ → Type 0
SamePlaces ws rs rs' f i = (j : ℕ) → AtOrAbove ws i j → row_number rs j f ≡ row_number rs' j f
