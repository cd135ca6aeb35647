-- What the functions on candidate records do to lent memory.
use Rattle.std.specs.Prelude.{◌≡◌, List, [], ◌∷◌, ◌++◌, map, ℕ, ◌+◌, ◌*◌, ◌≤◌, length, drop, Float}
use Rattle.std.specs.Float.Ieee.{add}
use Rattle.std.specs.Float.{binary32}
use Rattle.style.specs.Style.{word_at}
use Rattle.tree.specs.Tree.{Tree, Forest, count_t, count_f, flat_t}
use Rattle.tree.specs.Table.{from}
use Rattle.steps.specs.Row.{Row}
use Rattle.steps.specs.Results.{listed}
use Rattle.steps.specs.Candidates.{Candidate, candidate_words, candidate_numbers, candidates_t, candidates_f}
use Rattle.walks.specs.Tables.{new_numbers, new_words, size_only, RowsOf}

-- a record moved by a place
unfoldable pub shifted : Float → Float → Candidate → Candidate
shifted x y c =
    record {
      node = c.node;
      order = c.order;
      start = add binary32 c.start x;
      end = add binary32 c.end x;
      line = add binary32 c.line y;
    }

-- n records at the front are moved
abbrev pub AllMoved : List Float → ℕ → Float → Float → List Float → Type 0
AllMoved xs n x y after =
    (l : List Candidate) (z : List Float) → xs ≡ listed candidate_numbers l ++ z → length l ≡ n → after ≡ listed candidate_numbers (map (shifted x y) l) ++ z

-- these are the sizes and rows of a tree of rows
pub record RowsOfT (ws : List ℕ) (rs : List Float) (ms : List ℕ) (t : Tree Row) : Type 0 where
  pub words_long : length ws ≡ 4 * count_t t
  pub sizes_are : from (λ k. word_at ws k 0) 0 (count_t t) ≡ flat_t size_only t
  pub rows_are : rs ≡ flat_t new_numbers t
  pub marks_are : ms ≡ flat_t new_words t

-- room for the records of a list
pub record RoomFor (l : List Candidate) (pairs : List ℕ) (triples : List Float) : Type 0 where
  pub pairs_room : 2 * length l ≤ length pairs
  pub triples_room : 3 * length l ≤ length triples

-- some tree has these rows, and there is room for its records
pub record GivenT (ws : List ℕ) (rs : List Float) (ms : List ℕ) (b : ℕ) (pairs : List ℕ) (triples : List Float) : Type 0 where
  pub tree : Tree Row
  pub rows_of : RowsOfT ws rs ms tree
  pub fit : b + count_t tree ≤ 1024
  pub room : RoomFor (candidates_t b tree) pairs triples

pub record GivenF (ws : List ℕ) (rs : List Float) (ms : List ℕ) (b : ℕ) (pairs : List ℕ) (triples : List Float) : Type 0 where
  pub forest : Forest Row
  pub rows_of : RowsOf ws rs ms forest
  pub fit : b + count_f forest ≤ 1024
  pub room : RoomFor (candidates_f b forest) pairs triples

-- a list's records stand at the front of memory, and what is past them is untouched
pub record Fronts (l : List Candidate) (n : ℕ) (pairs : List ℕ) (triples : List Float) (pairs' : List ℕ) (triples' : List Float) : Type 0 where
  pub count : n ≡ length l
  pub pairs_are : pairs' ≡ listed candidate_words l ++ drop (2 * length l) pairs
  pub triples_are : triples' ≡ listed candidate_numbers l ++ drop (3 * length l) triples

abbrev pub GathersT : List ℕ → List Float → List ℕ → ℕ → List ℕ → List Float → ℕ → List ℕ → List Float → Type 0
GathersT ws rs ms b pairs triples n pairs' triples' =
    (t : Tree Row) → RowsOfT ws rs ms t → RoomFor (candidates_t b t) pairs triples → Fronts (candidates_t b t) n pairs triples pairs' triples'

abbrev pub GathersF : List ℕ → List Float → List ℕ → ℕ → List ℕ → List Float → ℕ → List ℕ → List Float → Type 0
GathersF ws rs ms b pairs triples n pairs' triples' =
    (ts : Forest Row) → RowsOf ws rs ms ts → RoomFor (candidates_f b ts) pairs triples → Fronts (candidates_f b ts) n pairs triples pairs' triples'

pub record RoomOne (pairs : List ℕ) (triples : List Float) : Type 0 where
  pub pairs_room : 2 ≤ length pairs
  pub triples_room : 3 ≤ length triples

pub record RecordPut (pairs : List ℕ) (triples : List Float) (node order : ℕ) (start end line : Float) (pairs' : List ℕ) (triples' : List Float) : Type 0 where
  pub pairs_are : pairs' ≡ node ∷ order ∷ drop 2 pairs
  pub triples_are : triples' ≡ start ∷ end ∷ line ∷ drop 3 triples
