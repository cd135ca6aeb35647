-- What the members of the engine's cycle promise: at any tree that has these tables, memory ends as the definition says.
use Rattle.std.specs.Prelude.{◌≡◌, Bool, not, ◌&&◌, List, ◌++◌, ℕ, ◌+◌, ◌*◌, ◌-◌, ◌≤◌, ◌<◌, length, drop, replicate, Float, Option}
use Rattle.geometry.specs.Geometry.{zero_f}
use Rattle.style.specs.Style.{word_at, plane_of, style_at}
use Rattle.tree.specs.Tree.{Tree, Forest, node, count_f, flat_t, flat_f, map_t, map_f}
use Rattle.tree.specs.Table.{from}
use Rattle.steps.specs.Stack.{start_of, place_of, stepped, line_of, edges_of, past_aside, past_hidden}
use Rattle.steps.specs.Through.{finished}
use Rattle.steps.specs.Row.{Row, row_numbers, row_words, hidden_row, aside_row, laid_row, probe_of, put_at}
use Rattle.steps.specs.Page.{Cell, staying}
use Rattle.steps.specs.Kept.{final_stands}
use Rattle.steps.specs.Layout.{Stacked, align_f, lay_t, lay_f, ask_t}
use Rattle.steps.specs.declared.LayoutInput.{LayoutInput}
use Rattle.steps.specs.declared.LayoutOutput.{LayoutOutput}
use Rattle.steps.specs.declared.Frame.{Frame}
use Rattle.steps.specs.declared.Cursor.{Cursor}
use Rattle.steps.specs.declared.Finished.{Finished}
use Rattle.steps.specs.declared.Sizing.{Sizing}
use Rattle.walks.specs.Tables.{size_only, new_numbers, new_words, TabledT, RowsOf}
-- some tree has these tables: what a caller has to bring
pub use Rattle.walks.specs.Tables.{IsTree}
use Rattle.rows.specs.Edited.{touched}
use Rattle.rows.specs.Store.{Becomes}
use Rattle.stacking.specs.Footing.{item_with}
use Rattle.stacking.specs.declared.Footing.{Footing}
use Rattle.heights.specs.Leaves.{stack_leaves}
use Rattle.heights.specs.declared.StackOutput.{StackOutput}

-- rows and marks are those of a tree of rows
abbrev pub AreT : List Float → List ℕ → Tree Row → Type 0
AreT rs ms t = (rs ≡ flat_t new_numbers t) × (ms ≡ flat_t new_words t)

-- they are one row and those of a forest below it
abbrev pub HeadedBy : Row → Forest Row → List Float → List ℕ → Type 0
HeadedBy l ts rs ms = (rs ≡ row_numbers l ++ flat_f new_numbers ts) × (ms ≡ row_words l ++ flat_f new_words ts)

abbrev pub LaidT : List ℕ → List Float → List Float → List ℕ → List ℕ → ℕ → LayoutInput → Float → LayoutOutput → List Float → List ℕ → Type 0
LaidT ws xs rs ms es b q found out rs' ms' =
    (t : Tree Cell) → TabledT ws xs rs ms es b t → (out ≡ (lay_t (map_t staying t) q found).out) × AreT rs' ms' (lay_t (map_t staying t) q found).rows

abbrev pub AskedT : List ℕ → List Float → List Float → List ℕ → List ℕ → ℕ → LayoutInput → LayoutOutput → List Float → List ℕ → Type 0
AskedT ws xs rs ms es b q out rs' ms' =
    (t : Tree Cell) → TabledT ws xs rs ms es b t → (out ≡ (ask_t (map_t staying t) q).out) × AreT rs' ms' (ask_t (map_t staying t) q).rows

-- the stack: what it leaves of frame and cursor, the container's own row as it was, and the rows of its children
abbrev pub StackIs : Frame → Row → Stacked → StackOutput → List Float → List ℕ → Type 0
StackIs f l s out rs ms = (out ≡ stack_leaves f s.last) × HeadedBy l s.rows rs ms

abbrev pub LaidF : List ℕ → List Float → List Float → List ℕ → List ℕ → ℕ → Frame → StackOutput → List Float → List ℕ → Type 0
LaidF ws xs rs ms es b f out rs' ms' =
    (l : Cell) (ks : Forest Cell) → TabledT ws xs rs ms es b (node l ks) → StackIs f l.old (lay_f (map_f staying ks) f (start_of f)) out rs' ms'

-- step M on every forest of rows
abbrev pub Aligned : List ℕ → List Float → List ℕ → Option Float → List Float → Type 0
Aligned ws rs ms shift after = (ts : Forest Row) → RowsOf ws rs ms ts → after ≡ flat_f new_numbers (align_f shift ts)

-- a leaf's row, and zeros after it
abbrev pub LeafPut : List Float → List ℕ → LayoutInput → LayoutOutput → List Float → List ℕ → Type 0
LeafPut rs ms q o rs' ms' =
    (r : Row) (z : List Float) (y : List ℕ) → rs ≡ row_numbers r ++ z → ms ≡ row_words r ++ y
    → (rs' ≡ row_numbers (laid_row q o (probe_of r)) ++ replicate (length rs - 16) zero_f) × (ms' ≡ row_words (laid_row q o (probe_of r)) ++ replicate (length ms - 2) 0)

-- a hidden child: its row with zeros after it, and the cursor past it
abbrev pub Hidden : List Float → List ℕ → Cursor → Cursor → List Float → List ℕ → Type 0
Hidden rs ms c end rs' ms' =
    (end ≡ past_hidden c) × ((rs' ≡ row_numbers (hidden_row c.count) ++ replicate (length rs - 16) zero_f) × (ms' ≡ row_words (hidden_row c.count) ++ replicate (length ms - 2) 0))

-- a child out of the flow likewise
abbrev pub Aside : List Float → List ℕ → Frame → Cursor → Cursor → List Float → List ℕ → Type 0
Aside rs ms f c end rs' ms' =
    (end ≡ past_aside c)
    × ((rs' ≡ row_numbers (aside_row (edges_of f).start (line_of f c) (edges_of f).end c.shown.0) ++ replicate (length rs - 16) zero_f)
    × (ms' ≡ row_words (aside_row (edges_of f).start (line_of f c) (edges_of f).end c.shown.0) ++ replicate (length ms - 2) 0))

-- a child that has answered, by what is held of its item: its place, and the cursor past it
abbrev pub Settled : List Float → List ℕ → Frame → Cursor → Footing → LayoutOutput → Cursor → List Float → List ℕ → Type 0
Settled rs ms f c i o end rs' ms' =
    (z : Sizing) → (end ≡ stepped f c (item_with z i) o) × Becomes rs ms rs' ms' (put_at (place_of f c (item_with z i) o) c.shown.0)

-- below the first node's words stand those of a forest of this shape
pub record ShapedAs (ws : List ℕ) (ts : Forest Row) : Type 0 where
  pub words_long : length ws ≡ 4 + 4 * count_f ts
  pub sizes_are : from (λ k. word_at (drop 4 ws) k 0) 0 (count_f ts) ≡ flat_f size_only ts

-- a container's row above the rows of its children: some row and some forest of that shape
pub record IsBlock (ws : List ℕ) (xs rs : List Float) (ms : List ℕ) (b : ℕ) : Type 0 where
  pub own : Row
  pub children : Forest Row
  pub headed : HeadedBy own children rs ms
  pub shaped : ShapedAs ws children
  pub fit : length ws ≤ 4096
  pub reach : b < plane_of xs

-- L to N, for whatever frame and cursor the stack's output is of: the answer, the own row, and the shift on each child's row
abbrev pub EndsIn : LayoutInput → Finished → Row → Forest Row → LayoutOutput → List Float → List ℕ → Type 0
EndsIn q d l ts out rs ms = (out ≡ d.output) × HeadedBy (laid_row q d.output (probe_of l)) (align_f d.shift ts) rs ms

abbrev pub Ended : List ℕ → List Float → List Float → List ℕ → ℕ → LayoutInput → StackOutput → LayoutOutput → List Float → List ℕ → Type 0
Ended ws xs rs ms b q stack out rs' ms' =
    (f : Frame) (c : Cursor) (l : Row) (ts : Forest Row) → stack ≡ stack_leaves f c → HeadedBy l ts rs ms → ShapedAs ws ts → EndsIn q (finished (style_at ws 0 xs b) q f c) l ts out rs' ms'

-- the answer of a node may be kept
abbrev pub Stands : List Float → List ℕ → List ℕ → ℕ → ℕ → LayoutInput → Bool → Type 0
Stands rs ms es b n q v =
    (r : Row) (z : List Float) (y : List ℕ) → rs ≡ row_numbers r ++ z → ms ≡ row_words r ++ y → v ≡ (not (touched es b n) && final_stands q r)
