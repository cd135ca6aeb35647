-- What the replay program prints fits the 327,680 bytes that it lends, whatever it reads; and its day starts as the theorems of Replay and Refused suppose.
use Rattle.page.specs.declared.PageError.TheVariants.{BadLine}
use Rattle.page.specs.declared.PageError.{PageError}
use Rattle.steps.specs.declared.Refusal.{Refusal}
use Rattle.std.proofs.Math.Path.{◌≡◌, refl}
use Rattle.std.proofs.Common.{sym, ◌∙◌, ap, mul-suc, length-append, eqb-true}
use Rattle.std.specs.Prelude.{Bool, cond, length, drop, eqb, leb, Float, Option, Result, None, Some, Err, Ok}
use Rattle.std.proofs.Math.Bool.{true, false}
use mathlib.Core.List.{List, [], ◌∷◌, ◌++◌}
use Prim.Native.Nat.{ℕ, zero, suc, ◌+◌, ◌*◌, ◌/◌, ◌<◌, ◌≤◌, min}
use native.Mathlib.Omega.{arith}
use Rattle.std.proofs.lemmas.List.{length-replicate}
use Rattle.steps.specs.Noes.{paper}
use Rattle.text.specs.Pieces.{piece_at, starts_with}
use Rattle.text.specs.Values.{value_of}
use Rattle.text.specs.Laws.{value_within}
use Rattle.page.specs.File.{Read, node_limit, page_file}
use Rattle.page.specs.declared.Head.{Head}
use Rattle.print.specs.Pen.{Pen, pen, put_all}
use Rattle.print.specs.Text.{answer_text, each, bad_text}
use Rattle.print.specs.Sizes.{decimal_short, count_short, each_short, bad_short}
use Rattle.print.proofs.PenLaws.{all_put}
use Rattle.pages.specs.Output.{Shown}
use Rattle.rowtext.specs.RowText.{row_line, row_short}
use Rattle.day.specs.Day.{Day, event_result, day_after, answers_of}
use Rattle.day.specs.declared.Event.{Event}
use Rattle.trace.specs.Event.{event_line, is_event, event_of, events_of}
use Rattle.trace.specs.File.{events=, events_line, page_part, event_part, event_number, read_part, bad_event, bad_by, bad_in, with_bad, with_events, trace_of, trace_file, trace_events}
use Rattle.replays.specs.Output.{answers_text, day_text, start_of, file_text, replay_text}
use Rattle.replays.proofs.Start.{trace_fits}
use Rattle.day_claims.specs.Replay.{Starts}

-- the day of the program starts with zero rows and an empty list
pub day_starts : (h : Head) (ws : List ℕ) (xs : List Float) → Starts (start_of h ws xs)
unfolding start_of
day_starts h ws xs = record { marks_zero = rw (length-replicate {A = ℕ} (2 * h.count) 0); empty = refl; room = rw (length-replicate {A = ℕ} 4096 0) (omega arith) }

-- ---- as many events as the file says, 4,096 at most
no_zero : (k : ℕ) {A : Type 0} → 0 < k → k ≡ 0 → A
no_zero k h e = absurd (omega arith)

module _ (whole : Bool) (n : ℕ) where
  one_more : (b : Bool) (ls : List (List ℕ)) (c k : ℕ) → 0 < k → (bad_event whole n c (k + 1) ls ≡ 0 → length ls ≤ c) → cond b (bad_event whole n c (k + 1) ls) k ≡ 0 → suc (length ls) ≤ suc c
  one_more true ls c k h f z = omega (arith, f z)
  one_more false ls c k h f z = no_zero k h z

  few-lines : (ls : List (List ℕ)) (c k : ℕ) → 0 < k → bad_event whole n c k ls ≡ 0 → length ls ≤ c
  unfolding bad_event
  few-lines [] c k h e = omega arith
  few-lines (l ∷ ls) zero k h e = no_zero k h e
  few-lines (l ∷ ls) (suc c) k h e = one_more (is_event (event_line n l)) ls c k h (few-lines ls c (k + 1) (omega arith)) e

  keyed-few : (l : List ℕ) (c : ℕ) (b : Bool) → starts_with events= l ≡ b → events_line l ≡ Some c → c ≤ 4096
  unfolding events_line
  keyed-few l c true q e = value_within 10 4096 (drop 7 l) c (rw q at e)
  keyed-few l c false q e =
      let z : ◌≡◌ {A = Option ℕ} None (Some c) = rw q at e in
      let o : ◌≡◌ {A = ℕ} 0 1 = cc in
      absurd (omega arith)

  by_count : (ls : List (List ℕ)) (k : ℕ) (v : Option ℕ) → 0 < k → events_line (piece_at ls 0) ≡ v → bad_by whole n k ls v ≡ 0 → length (drop 1 ls) ≤ 4096
  unfolding bad_by
  by_count ls k None h q e = no_zero k h e
  by_count ls k (Some c) h q e = omega (arith, few-lines (drop 1 ls) c (k + 1) (omega arith) e, keyed-few (piece_at ls 0) c (starts_with events= (piece_at ls 0)) refl q)

  lines-few : (ls : List (List ℕ)) (k : ℕ) → 0 < k → bad_in whole n k ls ≡ 0 → length (drop 1 ls) ≤ 4096
  unfolding bad_in
  lines-few ls k h e = by_count ls k (events_line (piece_at ls 0)) h refl e

one_event : (x : Option Event) → length (event_of x) ≤ 1
unfolding event_of
one_event None = omega arith
one_event (Some e) = omega arith

events_few : (n : ℕ) (ls : List (List ℕ)) → length (events_of n ls) ≤ length ls
unfolding events_of
events_few n [] = omega arith
events_few n (l ∷ ls) = simp length-append (omega (arith, one_event (event_line n l), events_few n ls))

bad_by_lem : (f : Read) (k : ℕ) (h : Head) (b : Bool) → eqb k 0 ≡ b → (with_bad f k).file ≡ Ok h → (k ≡ 0) × (f.file ≡ Ok h)
unfolding with_bad
bad_by_lem f k h true q e = (eqb-true k 0 q, rw q at e)
bad_by_lem f k h false q e =
    let z : ◌≡◌ {A = Result Head PageError} (Err (BadLine k)) (Ok h) = rw q at e in
    let o : ◌≡◌ {A = ℕ} 0 1 = cc in
    absurd (omega arith)

page_by : (whole : Bool) (s : List ℕ) (f : Read) (p : Result Head PageError) (h : Head) → f.file ≡ p → (with_events whole s f p).file ≡ Ok h → bad_in whole h.count (event_number s) (event_part s) ≡ 0
unfolding with_events
page_by whole s f (Err (BadLine k)) h q e =
    let o : ◌≡◌ {A = ℕ} 0 1 = cc in
    absurd (omega arith)
page_by whole s f (Ok g) h q e =
    let z = bad_by_lem f (bad_in whole g.count (event_number s) (event_part s)) h (eqb (bad_in whole g.count (event_number s) (event_part s)) 0) refl e in
    let same : g ≡ h = cc z.1 in
    rw (← same) z.0

-- a trace that is read has at most 4,096 events
pub trace_few : (s : List ℕ) (h : Head) → (trace_file 2048 16384 s).file ≡ Ok h → length (trace_events h.count s) ≤ 4096
unfolding trace_file trace_of trace_events
trace_few s h e =
    let f = page_file 2048 16384 (page_part (read_part s)) in
    let w = leb (length s) 524287 in
    let z = page_by w (read_part s) f f.file h refl e in
    omega (arith, lines-few w h.count (event_part (read_part s)) (event_number (read_part s)) (omega arith) z, events_few h.count (drop 1 (event_part (read_part s))))

-- ---- how long the text is
answer_short : (a b : ℕ) → length (answer_text a b) ≤ 49
unfolding answer_text
answer_short a b = simp length-append (omega (arith, decimal_short 20 a, count_short b))

answers_short : (l : List (Result ℕ Refusal)) → length (answers_text l) ≤ 49 * length l
unfolding answers_text
answers_short [] = omega arith
answers_short (a ∷ l) = simp length-append (omega (arith, answers_short l, answer_short (paper a).0 (paper a).1))

as_many : (es : List Event) (d : Day) → length (answers_of es d) ≡ length es
unfolding answers_of
as_many [] d = refl
as_many (e ∷ es) d = ap suc (as_many es (event_result e d).after)

day_short : (n : ℕ) (es : List Event) (d : Day) → n ≤ 512 → length es ≤ 4096 → length (day_text n es d) ≤ 327680
unfolding day_text
day_short n es d h g =
    simp length-append
    (omega (arith, answers_short (answers_of es d), as_many es d, each_short (row_line (day_after es d).rows (day_after es d).marks) 199 (row_short (day_after es d).rows (day_after es d).marks) n))

file_short : (s : List ℕ) (f : Result Head PageError) (ws : List ℕ) (xs : List Float) → ((h : Head) → f ≡ Ok h → (h.count ≤ 512) × (length (trace_events h.count s) ≤ 4096)) → length (file_text s f ws xs) ≤ 327680
unfolding file_text
file_short s (Err (BadLine k)) ws xs h = omega (arith, bad_short k)
file_short s (Ok g) ws xs h = let z = h g refl in day_short g.count (trace_events g.count s) (start_of g ws xs) z.0 z.1

few_nodes : (s : List ℕ) (h : Head) → (trace_file 2048 16384 s).file ≡ Ok h → h.count ≤ 512
unfolding node_limit
few_nodes s h e = omega (arith, trace_fits s h e)

-- whatever is read, the output has at most 327,680 bytes
pub replay_fits : (s : List ℕ) → length (replay_text s) ≤ 327680
unfolding replay_text
replay_fits s = file_short s (trace_file 2048 16384 s).file (trace_file 2048 16384 s).words (trace_file 2048 16384 s).numbers (λ h e. (few_nodes s h e, trace_few s h e))

-- what is shown in such a buffer is the whole output, with the rest as it was
pub never_cut : (s out out' : List ℕ) (r : ℕ) → length out ≡ 327680 → Shown (replay_text s) out out' r → (r ≡ length (replay_text s)) × (out' ≡ replay_text s ++ drop (length (replay_text s)) out)
never_cut s out out' r l h =
    let e = h.written ∙ all_put (replay_text s) out (omega (arith, replay_fits s)) in
    (ap (λ (p : Pen). p.at) e, ap (λ (p : Pen). p.bytes) e)
