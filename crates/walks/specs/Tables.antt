-- What lent tables have to do with a tree of cells: its words (a part of the page's), its rows, and the number of its first node.
use Rattle.std.specs.Prelude.{◌≡◌, cond, ◌||◌, List, [], ◌∷◌, ℕ, ◌+◌, ◌*◌, ◌≤◌, length, Float}
use Rattle.std.specs.Float.Ieee.{add}
use Rattle.std.specs.Float.{binary32}
use Rattle.style.specs.Codes.{flag_at}
use Rattle.style.specs.Style.{word_at, plane_of}
use Rattle.tree.specs.Tree.{Tree, Forest, count_t, count_f, depth_t, depth_f, flat_t, flat_f, map_f}
use Rattle.tree.specs.Table.{Entry, from}
use Rattle.steps.specs.Row.{Row, row_numbers, row_words}
use Rattle.steps.specs.Page.{Site, Cell, site_at, staying}
use Rattle.steps.specs.Kept.{fix_f}
use Rattle.steps.specs.Layout.{lower_f}

-- what a node adds to each table
abbrev pub site_entry : ℕ → Cell → List (Entry Site)
site_entry n l = record { size = n; label = l.site } ∷ []

abbrev pub old_numbers : ℕ → Cell → List Float
old_numbers n l = row_numbers l.old

abbrev pub old_words : ℕ → Cell → List ℕ
old_words n l = row_words l.old

abbrev pub new_numbers : ℕ → Row → List Float
new_numbers n r = row_numbers r

abbrev pub new_words : ℕ → Row → List ℕ
new_words n r = row_words r

abbrev pub size_only : {A : Type 0} → ℕ → A → List ℕ
size_only n a = n ∷ []

-- these tables are the tree's, whose first node has the number b
pub record TabledT (ws : List ℕ) (xs rs : List Float) (ms es : List ℕ) (b : ℕ) (t : Tree Cell) : Type 0 where
  pub words_long : length ws ≡ 4 * count_t t
  pub sites_are : from (site_at ws xs es b) 0 (count_t t) ≡ flat_t site_entry t
  pub rows_are : rs ≡ flat_t old_numbers t
  pub marks_are : ms ≡ flat_t old_words t

pub record TabledF (ws : List ℕ) (xs rs : List Float) (ms es : List ℕ) (b : ℕ) (ts : Forest Cell) : Type 0 where
  pub words_long : length ws ≡ 4 * count_f ts
  pub sites_are : from (site_at ws xs es b) 0 (count_f ts) ≡ flat_f site_entry ts
  pub rows_are : rs ≡ flat_f old_numbers ts
  pub marks_are : ms ≡ flat_f old_words ts

-- some tree has these tables; no deeper than `depth`, its numbers are a page's, and each of its nodes has a place in the planes
pub record IsTree (ws : List ℕ) (xs rs : List Float) (ms es : List ℕ) (b depth : ℕ) : Type 0 where
  pub tree : Tree Cell
  pub tabled : TabledT ws xs rs ms es b tree
  pub deep : depth_t tree ≤ depth
  pub fit : b + count_t tree ≤ 1024
  pub reach : b + count_t tree ≤ plane_of xs

pub record IsForest (ws : List ℕ) (xs rs : List Float) (ms es : List ℕ) (b depth : ℕ) : Type 0 where
  pub forest : Forest Cell
  pub tabled : TabledF ws xs rs ms es b forest
  pub deep : depth_f forest ≤ depth
  pub fit : b + count_f forest ≤ 1024
  pub reach : b + count_f forest ≤ plane_of xs

-- these are the sizes and rows of a forest of rows
pub record RowsOf (ws : List ℕ) (rs : List Float) (ms : List ℕ) (ts : Forest Row) : Type 0 where
  pub words_long : length ws ≡ 4 * count_f ts
  pub sizes_are : from (λ k. word_at ws k 0) 0 (count_f ts) ≡ flat_f size_only ts
  pub rows_are : rs ≡ flat_f new_numbers ts
  pub marks_are : ms ≡ flat_f new_words ts

-- some forest of rows has them
pub record IsRows (ws : List ℕ) (rs : List Float) (ms : List ℕ) : Type 0 where
  pub forest : Forest Row
  pub rows_of : RowsOf ws rs ms forest
  pub fit : length ws ≤ 4096

-- step M on every such forest
abbrev pub LoweredRows : List ℕ → List Float → List ℕ → Float → List Float → Type 0
LoweredRows ws rs ms d after = (ts : Forest Row) → RowsOf ws rs ms ts → after ≡ flat_f new_numbers (lower_f d ts)

-- some forest of cells has these tables
pub record IsBelow (ws : List ℕ) (rs : List Float) (ms : List ℕ) : Type 0 where
  pub numbers : List Float
  pub edits : List ℕ
  pub base : ℕ
  pub forest : Forest Cell
  pub tabled : TabledF ws numbers rs ms edits base forest
  pub fit : length ws ≤ 4096

-- what stands below a kept node, for every such forest
abbrev pub KeptBelow : List ℕ → List Float → List ℕ → List Float → List ℕ → Type 0
KeptBelow ws rs ms after marks =
    (xs : List Float) (es : List ℕ) (b : ℕ) (ts : Forest Cell) → TabledF ws xs rs ms es b ts
    → (after ≡ flat_f new_numbers (fix_f (map_f staying ts))) × (marks ≡ flat_f new_words (fix_f (map_f staying ts)))

-- M on one number
unfoldable pub lowered_y : Float → ℕ → Float → Float
lowered_y y bits d = cond (flag_at bits 0 || flag_at bits 2) (add binary32 y d) y
