-- From a table to the tree: the nodes in preorder, each with the size of its subtree.
use Rattle.std.specs.Prelude.{List, [], ◌∷◌, ℕ, zero, suc, ◌+◌, ◌-◌, length, take, drop}
use Rattle.tree.specs.Tree.{Tree, Forest, node, none, more}

-- a node as its table has it
pub record Entry (A : Type 0) : Type 0 where
  pub size : ℕ
  pub label : A

-- a tree's entry for a node
abbrev pub entry_of : {A : Type 0} → ℕ → A → List (Entry A)
entry_of n a = record { size = n; label = a } ∷ []

-- f i, f (i + 1), .., n of them
unfoldable pub from : {A : Type 0} → (ℕ → A) → ℕ → ℕ → List A
from f i zero = []
from f i (suc n) = f i ∷ from f (suc i) n

-- The trees of a run of entries: the first node's children are the rest of its run. k is fuel; the run's length is enough.
unfoldable pub parse_f : {A : Type 0} → ℕ → List (Entry A) → Forest A
parse_f zero l = none
parse_f (suc k) [] = none
parse_f (suc k) (e ∷ l) = more (node e.label (parse_f k (take (e.size - 1) l))) (parse_f k (drop (e.size - 1) l))

-- The tree of n nodes at least: the first is the root, the others are below it.
unfoldable pub parse_t : {A : Type 0} → (ℕ → Entry A) → ℕ → Tree A
parse_t f n = node (f 0).label (parse_f (n - 1) (from f 1 (n - 1)))
