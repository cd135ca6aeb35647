-- What the functions on rows do to lent memory, said of rows that are split off it.
use Rattle.std.specs.Prelude.{◌≡◌, Bool, List, [], ◌∷◌, ◌++◌, map, ℕ, ◌+◌, ◌*◌, ◌/◌, ◌%◌, ◌≤◌, length, Float}
use Rattle.length.specs.declared.AvailableSpace.{AvailableSpace}
use Rattle.steps.specs.Row.{Row, ProbeWords, bit, available_kind, row_numbers, row_words, noted, with_code, no_probe, probe_note, probe_code}
use Rattle.steps.specs.Results.{listed}
use Rattle.steps.specs.declared.ProbeInput.{ProbeInput}

-- the first row is changed by f, and what follows stays
abbrev pub Becomes : List Float → List ℕ → List Float → List ℕ → (Row → Row) → Type 0
Becomes rs ms rs' ms' f =
    (r : Row) (z : List Float) (y : List ℕ) → rs ≡ row_numbers r ++ z → ms ≡ row_words r ++ y → (rs' ≡ row_numbers (f r) ++ z) × (ms' ≡ row_words (f r) ++ y)

-- a value read off the first row
abbrev pub Reads : {A : Type 0} → List Float → List ℕ → A → (Row → A) → Type 0
Reads rs ms v f = (r : Row) (z : List Float) (y : List ℕ) → rs ≡ row_numbers r ++ z → ms ≡ row_words r ++ y → v ≡ f r

-- room for a row
pub record OneRow (rs : List Float) (ms : List ℕ) : Type 0 where
  pub rows_some : 16 ≤ length rs
  pub marks_some : 2 ≤ length ms

-- n whole rows
pub record Whole (rs : List Float) (ms : List ℕ) : Type 0 where
  pub n : ℕ
  pub rows_long : length rs ≡ 16 * n
  pub marks_long : length ms ≡ 2 * n

-- the bits of a laid row, the old probe bits kept
unfoldable pub head_bits : ℕ → Bool → Bool → Bool → Bool → ℕ
head_bits old through given based lined = 1 + 2 * bit through + 8 * bit given + 16 * (old / 16 % 16) + 256 * bit based + 512 * bit lined

-- bit 0 taken away
unfoldable pub unlaid : ℕ → ℕ
unlaid b = b / 2 * 2

-- the bits of a row that is probed anew
unfoldable pub probe_bits : ℕ → AvailableSpace → Bool → ℕ
probe_bits old a given = with_code (unlaid old) (1 + 2 * available_kind a + 8 * bit given)

-- a probe noted in a row whose old answer may not be kept
unfoldable pub probed_row : ProbeInput → Float → Row → Row
probed_row q answer r = noted r (probe_note q answer) (with_code (unlaid r.bits) (probe_code q))

-- no probe words
unfoldable pub cleared_row : Row → Row
cleared_row r = noted r no_probe (with_code r.bits 0)

-- every row of a run is changed by f
abbrev pub AllBecome : List Float → List ℕ → List Float → List ℕ → (Row → Row) → Type 0
AllBecome rs ms rs' ms' f =
    (l : List Row) → rs ≡ listed row_numbers l → ms ≡ listed row_words l → (rs' ≡ listed row_numbers (map f l)) × (ms' ≡ listed row_words (map f l))
