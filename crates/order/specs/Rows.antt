-- What it is for rows to be in order: of lent tables, and of a tree of rows.
use Rattle.std.specs.Prelude.{◌≡◌, true, false, List, ℕ, ◌<◌, Float}
use Rattle.std.specs.Float.Ieee.{lt, le}
use Rattle.geometry.specs.Floats.{◌⊕◌}
use Rattle.tree.specs.Tree.{Tree, Forest, node, none, more, root_t}
use Rattle.steps.specs.Row.{Row, is_laid, row_at}
use Rattle.steps.specs.Page.{nodes_in}
use Rattle.tables.specs.Ancestors.{Child}

-- a row's place down, and its bottom edge
abbrev pub top_edge : Row → Float
top_edge r = r.place.y

abbrev pub bottom_edge : Row → Float
bottom_edge r = r.place.y ⊕ r.answer.size.height

-- Of lent tables: i and j are laid children of node p, i before j. The bottom edge of i, a sum rounded once, is at most the place of j, as numbers.
abbrev pub RowsInOrder : List ℕ → List Float → List ℕ → Type 0
RowsInOrder ws rs ms =
    (p i j : ℕ)
    → p < nodes_in ws
    → Child ws p i
    → Child ws p j
    → i < j
    → is_laid (row_at rs ms i) ≡ true
    → is_laid (row_at rs ms j) ≡ true
    → le (bottom_edge (row_at rs ms i)) (top_edge (row_at rs ms j)) ≡ true

-- ---- of a tree, where `not less` stands for `at most`: it needs no word on NaN

-- none of these siblings that is laid stands above b
abbrev pub AfterF : Float → Forest Row → Type 0
AfterF b none = Unit {0}
AfterF b (more u us) = (is_laid (root_t u) ≡ true → lt (top_edge (root_t u)) b ≡ false) × AfterF b us

-- of the children of every node, the later ones stand not above the bottom edge of one that is laid
abbrev mutual
  pub InOrderT : Tree Row → Type 0
  InOrderT (node r us) = InOrderF us

  pub InOrderF : Forest Row → Type 0
  InOrderF none = Unit {0}
  InOrderF (more u us) = (is_laid (root_t u) ≡ true → AfterF (bottom_edge (root_t u)) us) × InOrderT u × InOrderF us
