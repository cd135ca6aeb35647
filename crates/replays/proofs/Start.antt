-- The start of a day in lent memory, and what is printed of a trace. Assumes nothing.
use Rattle.std.specs.Prelude.{Err, Ok, Result}
use Rattle.page.specs.declared.PageError.TheVariants.{BadLine}
use Rattle.page.specs.declared.PageError.{PageError}
use mathlib.Core.Path.{◌≡◌, refl, sym, ◌∙◌}
use mathlib.Core.Bool.{Bool, true, false}
use mathlib.Core.List.{List}
use Prim.Native.Nat.{ℕ, ◌*◌, ◌≤◌}
use native.Mathlib.Omega.{arith}
use lib.ListN.{length, take}
use lib.Dec.{eqb, leb}
use lib.Ieee.{Float}
use Rattle.geometry.specs.Geometry.{zero_f}
use Rattle.page.specs.Body.{line_number}
use Rattle.page.specs.File.{Read, node_limit, page_file, ReadAs}
use Rattle.page.specs.declared.Head.{Head}
use Rattle.page.proofs.HeadFits.{page_fits}
use Rattle.pages.proofs.PageText.{cut}
use Rattle.print.specs.Text.{bad_text}
use Rattle.day.specs.Day.{day}
use Rattle.trace.specs.File.{page_part, event_number, event_part, read_part, bad_in, with_bad, with_events, trace_of, trace_file, trace_events}
use Rattle.replays.specs.Output.{fields, day_text, start_of, file_text, replay_text, Fits, Lent}

-- zeroed memory that is cut to the size of the page is the start of its day
pub start_is : (h : Head) (ws : List ℕ) (xs rs : List Float) (ms ps : List ℕ) (ts : List Float) (l : List ℕ) → h.count ≤ 512 → Lent rs ms ps ts l
    → day (record { question = h.question; count = 0 }) (take (4 * h.count) ws) (take (fields * h.count) xs) (take (16 * h.count) rs) (take (2 * h.count) ms) (take (2 * h.count) ps) (take (3 * h.count) ts) l ≡ start_of h ws xs
unfolding start_of
start_is h ws xs rs ms ps ts l few lent =
    let n = h.count in
    rw (cut (16 * n) 8192 zero_f rs lent.rows_zero (omega arith), cut (2 * n) 1024 0 ms lent.marks_zero (omega arith), cut (2 * n) 1024 0 ps lent.pairs_zero (omega arith), cut (3 * n) 1536 zero_f ts lent.triples_zero (omega arith), lent.list_zero)

bad_by_lem : (f : Read) (k : ℕ) (h : Head) (b : Bool) → eqb k 0 ≡ b → (with_bad f k).file ≡ Ok h → f.file ≡ Ok h
unfolding with_bad
bad_by_lem f k h true q e = rw q at e
bad_by_lem f k h false q e =
    let z : ◌≡◌ {A = Result Head PageError} (Err (BadLine k)) (Ok h) = rw q at e in
    let o : ◌≡◌ {A = ℕ} 0 1 = cc in
    absurd (omega arith)

page_by : (whole : Bool) (s : List ℕ) (f : Read) (p : Result Head PageError) (h : Head) → f.file ≡ p → (with_events whole s f p).file ≡ Ok h → f.file ≡ Ok h
unfolding with_events
page_by whole s f (Err (BadLine k)) h q e = e
page_by whole s f (Ok g) h q e = bad_by_lem f (bad_in whole g.count (event_number s) (event_part s)) h (eqb (bad_in whole g.count (event_number s) (event_part s)) 0) refl e

-- the page of a trace that is read fits its tables
pub trace_fits : (s : List ℕ) (h : Head) → (trace_file 2048 16384 s).file ≡ Ok h → h.count ≤ node_limit 2048 16384
unfolding trace_file trace_of
trace_fits s h e =
    let f = page_file 2048 16384 (page_part (read_part s)) in
    page_fits 2048 16384 (page_part (read_part s)) h (page_by (leb (length s) 524287) (read_part s) f f.file h refl e)

pub fits_in : (s : List ℕ) (h : Head) (ws : List ℕ) (xs : List Float) → (trace_file 2048 16384 s).file ≡ Ok h → length ws ≡ 2048 → length xs ≡ 16384 → Fits h.count ws xs
unfolding node_limit
fits_in s h ws xs e a b =
    let f = trace_fits s h e in
    record { few = omega (arith, f); words_long = omega (arith, f); numbers_long = omega (arith, f) }

-- the output of a bad trace, and of a good one
module _ (s : List ℕ) (r : Result Head PageError) (ws : List ℕ) (xs : List Float) (read : ReadAs (trace_file 2048 16384 s) r ws xs) where
  pub bad-output : (e : PageError) → r ≡ Err e → bad_text (line_number e) ≡ replay_text s
  unfolding replay_text file_text
  bad-output (BadLine k) e = rw (sym read.file_is ∙ e)

  pub day-output : (h : Head) → r ≡ Ok h → day_text h.count (trace_events h.count s) (start_of h ws xs) ≡ replay_text s
  unfolding replay_text file_text
  day-output h e = rw (sym read.file_is ∙ e, read.words_are, read.numbers_are)
