-- From the bytes of a trace file to the bytes of its answers and last rows.
use Rattle.page.specs.declared.PageError.TheVariants.{BadLine}
use Rattle.page.specs.declared.PageError.{PageError}
use Rattle.steps.specs.declared.Refusal.{Refusal}
use Rattle.std.specs.Prelude.{◌≡◌, List, [], ◌∷◌, ◌++◌, ℕ, ◌*◌, ◌≤◌, length, take, replicate, Float, Result, Err, Ok}
use Rattle.geometry.specs.Geometry.{zero_f}
use Rattle.steps.specs.Noes.{paper}
use Rattle.page.specs.declared.Head.{Head}
use Rattle.print.specs.Pen.{Pen, put_all}
use Rattle.print.specs.Text.{answer_text, bad_text, each}
use Rattle.rowtext.specs.RowText.{row_line}
use Rattle.sheet.specs.Sheet.{sheet}
use Rattle.day.specs.Day.{Day, day_after, answers_of}
use Rattle.day.specs.declared.Event.{Event}
use Rattle.trace.specs.File.{trace_file, trace_events}

-- how many numbers a node has
abbrev pub fields : ℕ
fields = 28

-- a line for each answer: number and place
unfoldable pub answers_text : List (Result ℕ Refusal) → List ℕ
answers_text [] = []
answers_text (a ∷ l) = answer_text (paper a).0 (paper a).1 ++ answers_text l

-- a day of a page of n nodes: the answer of each event, then the rows at its end
unfoldable pub day_text : ℕ → List Event → Day → List ℕ
day_text n es d = answers_text (answers_of es d) ++ each (row_line (day_after es d).rows (day_after es d).marks) n

-- the start of a day: the page as read, its question, zero rows, an empty list, and a record for each node
unfoldable pub start_of : Head → List ℕ → List Float → Day
start_of h ws xs =
    record {
      page = sheet (take (4 * h.count) ws) (take (fields * h.count) xs) (replicate 4096 0) 0;
      question = h.question;
      rows = replicate (16 * h.count) zero_f;
      marks = replicate (2 * h.count) 0;
      pairs = replicate (2 * h.count) 0;
      triples = replicate (3 * h.count) zero_f;
    }

unfoldable pub file_text : List ℕ → Result Head PageError → List ℕ → List Float → List ℕ
file_text s (Err (BadLine k)) ws xs = bad_text k
file_text s (Ok h) ws xs = day_text h.count (trace_events h.count s) (start_of h ws xs)

-- every byte string: a bad line, or the answers and the rows. Tables for 512 nodes; the numbers have room for 32 a node.
unfoldable pub replay_text : List ℕ → List ℕ
replay_text s =
    let f = trace_file 2048 16384 s in
    file_text s f.file f.words f.numbers

-- some events were done: the day after them, and their answers printed
pub record RunOf (es : List Event) (d : Day) (p : Pen) (d' : Day) (p' : Pen) : Type 0 where
  pub after : d' ≡ day_after es d
  pub printed : p' ≡ put_all (answers_text (answers_of es d)) p

-- the tables hold n nodes
pub record Fits (n : ℕ) (ws : List ℕ) (xs : List Float) : Type 0 where
  pub few : n ≤ 512
  pub words_long : 4 * n ≤ length ws
  pub numbers_long : fields * n ≤ length xs

-- zeroed memory for 512 nodes, and a list for 4,096 edits
pub record Lent (rs : List Float) (ms ps : List ℕ) (ts : List Float) (l : List ℕ) : Type 0 where
  pub rows_zero : rs ≡ replicate 8192 zero_f
  pub marks_zero : ms ≡ replicate 1024 0
  pub pairs_zero : ps ≡ replicate 1024 0
  pub triples_zero : ts ≡ replicate 1536 zero_f
  pub list_zero : l ≡ replicate 4096 0
