-- From the bytes of a page file to the bytes of its answer.
use Rattle.page.specs.declared.PageError.TheVariants.{BadLine}
use Rattle.page.specs.declared.PageError.{PageError}
use Rattle.std.specs.Prelude.{◌≡◌, List, ℕ, ◌*◌, ◌≤◌, length, take, replicate, Float, Err, Ok, Result}
use Rattle.geometry.specs.Geometry.{zero_f}
use Rattle.steps.specs.Question.{root_input}
use Rattle.steps.specs.Results.{Reply, layout_result}
use Rattle.page.specs.File.{page_file}
use Rattle.page.specs.declared.Head.{Head}
use Rattle.print.specs.Pen.{pen, put_all}
use Rattle.print.specs.Text.{page_text, bad_text}

-- the answer of a layout of n nodes, with all that it left
unfoldable pub reply_text : ℕ → Reply → List ℕ
reply_text n r = page_text r.answer n r.rows r.marks r.words r.numbers

-- a page that was read, laid out in zeroed memory for its nodes and as many records
unfoldable pub laid_page_text : Head → List ℕ → List Float → List ℕ
laid_page_text h ws xs =
    reply_text h.count (layout_result (take (4 * h.count) ws) (take (28 * h.count) xs) (replicate (16 * h.count) zero_f) (replicate (2 * h.count) 0) (replicate (2 * h.count) 0) (replicate (3 * h.count) zero_f) (root_input h.question))

unfoldable pub file_text : Result Head PageError → List ℕ → List Float → List ℕ
file_text (Err (BadLine k)) ws xs = bad_text k
file_text (Ok h) ws xs = laid_page_text h ws xs

-- every byte string: a bad line, a refusal, or boxes and candidates. Tables for 512 nodes.
unfoldable pub output_text : List ℕ → List ℕ
output_text s =
    let f = page_file 2048 14336 s in
    file_text f.file f.words f.numbers

-- the tables hold n nodes
pub record Fits (n : ℕ) (ws : List ℕ) (xs : List Float) : Type 0 where
  pub few : n ≤ 512
  pub words_long : 4 * n ≤ length ws
  pub numbers_long : 28 * n ≤ length xs

-- zeroed memory for 512 nodes
pub record Lent (rs : List Float) (ms ps : List ℕ) (ts : List Float) : Type 0 where
  pub rows_zero : rs ≡ replicate 8192 zero_f
  pub marks_zero : ms ≡ replicate 1024 0
  pub pairs_zero : ps ≡ replicate 1024 0
  pub triples_zero : ts ≡ replicate 1536 zero_f

-- the text stands at the front of the buffer, r bytes of it
pub record Shown (text out out' : List ℕ) (r : ℕ) : Type 0 where
  pub within : r ≤ length out'
  pub written : pen out' r ≡ put_all text (pen out 0)
