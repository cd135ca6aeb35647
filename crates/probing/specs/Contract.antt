-- What the members of the width pass promise: at any tree that has these tables, memory ends as the definition says.
use Rattle.std.specs.Prelude.{◌≡◌, Bool, not, ◌&&◌, List, ◌++◌, map, ℕ, suc, ◌*◌, length, Float}
use Rattle.geometry.specs.Geometry.{zero_f}
use Rattle.util.specs.Math.{larger}
use Rattle.length.specs.declared.AvailableSpace.{AvailableSpace}
use Rattle.tree.specs.Tree.{Tree, Forest, node, flat_t, flat_f, map_t, root_t}
use Rattle.steps.specs.Width.{want_of, outer_width}
use Rattle.steps.specs.Row.{Row, row_numbers, row_words}
use Rattle.steps.specs.Results.{listed}
use Rattle.steps.specs.Page.{Cell, Node, cleared}
use Rattle.steps.specs.Probe.{probe_stands, probe_t, probe_f, ask_p, width_pass}
use Rattle.steps.specs.declared.LayoutInput.{LayoutInput}
use Rattle.steps.specs.declared.ProbeInput.{ProbeInput}
use Rattle.steps.specs.declared.Want.{Want}
use Rattle.steps.specs.declared.Want.TheVariants.{Nothing, Outer}
use Rattle.steps.specs.declared.Want.TheVariants as want
use Rattle.rows.specs.Store.{cleared_row}
use Rattle.rows.specs.Edited.{touched}
use Rattle.walks.specs.Tables.{TabledT, TabledF}
-- some tree, or some forest, has these tables: what a caller has to bring
pub use Rattle.walks.specs.Tables.{IsTree, IsForest}
use Rattle.probing.specs.Passed.{passed_numbers, passed_words}

-- a row and n more
pub record Rows (rs : List Float) (ms : List ℕ) : Type 0 where
  pub n : ℕ
  pub rows_long : length rs ≡ 16 * suc n
  pub marks_long : length ms ≡ 2 * suc n

-- the first row stays, the others lose their probe words
abbrev pub RestCleared : List Float → List ℕ → List Float → List ℕ → Type 0
RestCleared rs ms rs' ms' =
    (r : Row) (l : List Row) → rs ≡ row_numbers r ++ listed row_numbers l → ms ≡ row_words r ++ listed row_words l
    → (rs' ≡ row_numbers r ++ listed row_numbers (map cleared_row l)) × (ms' ≡ row_words r ++ listed row_words (map cleared_row l))

-- the probe noted in the first row stands, no edit in the run
abbrev pub Stands : List Float → List ℕ → List ℕ → ℕ → ℕ → ProbeInput → Bool → Type 0
Stands rs ms es b n q v =
    (r : Row) (z : List Float) (y : List ℕ) → rs ≡ row_numbers r ++ z → ms ≡ row_words r ++ y → v ≡ (not (touched es b n) && probe_stands q r)

-- the largest width so far, past a child that is not probed
unfoldable pub most_past : Want → Float → Float
most_past Nothing m = m
most_past (Outer w) m = larger m w
most_past (want.Probe q) m = m

-- rows and marks are those that a pass leaves of these nodes
abbrev pub AreT : List Float → List ℕ → Tree Node → Type 0
AreT rs ms t = (rs ≡ flat_t passed_numbers t) × (ms ≡ flat_t passed_words t)

abbrev pub AreF : List Float → List ℕ → Forest Node → Type 0
AreF rs ms ts = (rs ≡ flat_f passed_numbers ts) × (ms ≡ flat_f passed_words ts)

-- the nodes below the root
unfoldable pub kids_t : {A : Type 0} → Tree A → Forest A
kids_t (node a ks) = ks

-- one child of a container without a width: the largest width so far, and its nodes
pub record Widened : Type 0 where
  pub most : Float
  pub nodes : Tree Node

unfoldable pub widened_by : Want → Float → AvailableSpace → Tree Cell → Widened
widened_by Nothing m a t = record { most = m; nodes = map_t cleared t }
widened_by (Outer w) m a t = record { most = larger m w; nodes = map_t cleared t }
widened_by (want.Probe q) m a t = record { most = larger m (outer_width (root_t t).site.style a (ask_p t q).answer); nodes = (ask_p t q).nodes }

unfoldable pub widened_t : Float → AvailableSpace → Tree Cell → Widened
widened_t m a t = widened_by (want_of (root_t t).site.style a) m a t

abbrev pub ProbedT : List ℕ → List Float → List Float → List ℕ → List ℕ → ℕ → ProbeInput → Float → List Float → List ℕ → Type 0
ProbedT ws xs rs ms es b q r rs' ms' = (t : Tree Cell) → TabledT ws xs rs ms es b t → (r ≡ (ask_p t q).answer) × AreT rs' ms' (ask_p t q).nodes

-- the root's own row is still the old one
abbrev pub AnewT : List ℕ → List Float → List Float → List ℕ → List ℕ → ℕ → ProbeInput → Float → List Float → List ℕ → Type 0
AnewT ws xs rs ms es b q r rs' ms' =
    (t : Tree Cell) → TabledT ws xs rs ms es b t
    → (r ≡ (probe_t t q).answer) × (rs' ≡ row_numbers (root_t t).old ++ flat_f passed_numbers (kids_t (probe_t t q).nodes)) × (ms' ≡ row_words (root_t t).old ++ flat_f passed_words (kids_t (probe_t t q).nodes))

abbrev pub WidenedT : List ℕ → List Float → List Float → List ℕ → List ℕ → ℕ → AvailableSpace → Float → Float → List Float → List ℕ → Type 0
WidenedT ws xs rs ms es b a most r rs' ms' =
    (t : Tree Cell) → TabledT ws xs rs ms es b t → (r ≡ (widened_t most a t).most) × AreT rs' ms' (widened_t most a t).nodes

abbrev pub WidestF : List ℕ → List Float → List Float → List ℕ → List ℕ → ℕ → AvailableSpace → Float → List Float → List ℕ → Type 0
WidestF ws xs rs ms es b a r rs' ms' =
    (ts : Forest Cell) → TabledF ws xs rs ms es b ts → (r ≡ (probe_f ts a zero_f).most) × AreF rs' ms' (probe_f ts a zero_f).nodes

-- the pass of a page
abbrev pub PassedT : List ℕ → List Float → List Float → List ℕ → List ℕ → LayoutInput → Float → List Float → List ℕ → Type 0
PassedT ws xs rs ms es q r rs' ms' = (t : Tree Cell) → TabledT ws xs rs ms es 0 t → (r ≡ (width_pass t q).found) × AreT rs' ms' (width_pass t q).nodes
