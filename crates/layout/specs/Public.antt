-- What the public calls promise: the answer, by its number and place too, and every word of lent memory are the definition's.
use Rattle.steps.specs.declared.Refusal.{Refusal}
use Rattle.std.specs.Prelude.{◌≡◌, false, List, ℕ, ◌+◌, ◌*◌, ◌≤◌, length, Float, Result}
use Rattle.style.specs.Style.{plane_of}
use Rattle.tree.specs.Tree.{Tree, count_t, depth_t, map_t}
use Rattle.steps.specs.Row.{Row}
use Rattle.steps.specs.Page.{Site, Cell}
use Rattle.steps.specs.Layout.{relaid}
use Rattle.steps.specs.Candidates.{candidates, needed}
use Rattle.steps.specs.declared.LayoutInput.{LayoutInput}
use Rattle.walks.specs.Tables.{TabledT}
use Rattle.steps.specs.Noes.{paper}
use Rattle.steps.specs.Results.{Reply, replied}
use Rattle.candidates.specs.Gathered.{RowsOfT, RoomFor}

pub record Replied (want : Reply) (answer : Result ℕ Refusal) (rows : List Float) (marks : List ℕ) (pairs : List ℕ) (triples : List Float) : Type 0 where
  pub answer_is : answer ≡ want.answer
  pub paper_is : paper answer ≡ paper want.answer
  pub rows_are : rows ≡ want.rows
  pub marks_are : marks ≡ want.marks
  pub words_are : pairs ≡ want.words
  pub numbers_are : triples ≡ want.numbers

-- some tree of rows has these tables, and there is room for its records
pub record IsPage (ws : List ℕ) (rs : List Float) (ms : List ℕ) (pairs : List ℕ) (triples : List Float) : Type 0 where
  pub tree : Tree Row
  pub rows_of : RowsOfT ws rs ms tree
  pub few : count_t tree ≤ 1024
  pub room : RoomFor (candidates tree) pairs triples

-- refusal 8, or the candidates, for every such tree
abbrev pub Finishes : List ℕ → List Float → List ℕ → List ℕ → List Float → Result ℕ Refusal → List Float → List ℕ → List ℕ → List Float → Type 0
Finishes ws rs ms pairs triples a rs' ms' pairs' triples' =
    (t : Tree Row) → RowsOfT ws rs ms t → RoomFor (candidates t) pairs triples → Replied (replied (count_t t) t rs ms pairs triples) a rs' ms' pairs' triples'

-- a node without its old row and edit mark
abbrev pub plain_site : Cell → Site
plain_site c = record { node = c.site.node; style = c.site.style; edit = false }

-- room for the records that a page needs
pub record RoomOf (t : Tree Cell) (pairs : List ℕ) (triples : List Float) : Type 0 where
  pub pairs_room : 2 * needed (map_t plain_site t) ≤ length pairs
  pub triples_room : 3 * needed (map_t plain_site t) ≤ length triples

-- some page has these tables, and there is room
pub record IsCells (ws : List ℕ) (xs rs : List Float) (ms es : List ℕ) (pairs : List ℕ) (triples : List Float) : Type 0 where
  pub tree : Tree Cell
  pub tabled : TabledT ws xs rs ms es 0 tree
  pub deep : depth_t tree ≤ 32
  pub fit : count_t tree ≤ 1024
  pub reach : count_t tree ≤ plane_of xs
  pub room : RoomOf tree pairs triples

-- a relayout of every such page
abbrev pub Relays : List ℕ → List Float → List Float → List ℕ → List ℕ → List ℕ → List Float → LayoutInput → Result ℕ Refusal → List Float → List ℕ → List ℕ → List Float → Type 0
Relays ws xs rs ms es pairs triples q a rs' ms' pairs' triples' =
    (t : Tree Cell) → TabledT ws xs rs ms es 0 t → RoomOf t pairs triples → Replied (replied (count_t t) (relaid t q).rows rs ms pairs triples) a rs' ms' pairs' triples'
