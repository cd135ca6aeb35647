-- A whole trace file: its page, and the first bad or missing line of page and events.
use Rattle.page.specs.declared.PageError.TheVariants.{BadLine}
use Rattle.page.specs.declared.PageError.{PageError}
use Rattle.page.specs.declared.Head.{Head}
use Rattle.std.specs.Prelude.{◌≡◌, Bool, true, cond, ◌&&◌, List, [], ◌∷◌, ℕ, zero, suc, ◌+◌, ◌≤◌, length, take, drop, eqb, leb, Option, None, Some, Err, Ok, Result}
use Rattle.text.specs.Pieces.{bit, starts_with, lines_of, piece_at}
use Rattle.text.specs.Values.{value_of}
use Rattle.lines.specs.Lines.{keyed}
use Rattle.page.specs.File.{Read, page_file}
use Rattle.day.specs.declared.Event.{Event}
use Rattle.trace.specs.Event.{event_line, is_event, events_of}
use Rattle.trace.specs.declared.Start.{Start}

abbrev pub events= : List ℕ
events= = 101 ∷ 118 ∷ 101 ∷ 110 ∷ 116 ∷ 115 ∷ 61 ∷ []

-- events= and a decimal number up to 4,096
unfoldable pub events_line : List ℕ → Option ℕ
events_line l = keyed events= l (value_of 10 4096) None

-- is a line that starts with events= next? `fresh`: a line starts here
unfoldable pub starts_events : Bool → List ℕ → Bool
starts_events fresh s = fresh && starts_with events= s

-- the bytes and the lines before the first line that starts with events=
unfoldable pub before_events : Bool → List ℕ → ℕ × ℕ
before_events fresh [] = (0, 0)
before_events fresh (b ∷ s) = cond (starts_events fresh (b ∷ s)) (0, 0) ((before_events (eqb b 10) s).0 + 1, bit fresh + (before_events (eqb b 10) s).1)

-- the page, the lines from events= on, and the number of the first of them
abbrev pub page_part : List ℕ → List ℕ
page_part s = take (before_events true s).0 s

abbrev pub event_part : List ℕ → List (List ℕ)
event_part s = lines_of (drop (before_events true s).0 s)

abbrev pub event_number : List ℕ → ℕ
event_number s = (before_events true s).1 + 1

-- 0, or the number of the first line that is no event, missing or too many: c events are to come, the next line has number k
unfoldable pub bad_event : Bool → ℕ → ℕ → ℕ → List (List ℕ) → ℕ
bad_event whole n c k [] = cond (whole && eqb c 0) 0 k
bad_event whole n zero k (l ∷ ls) = k
bad_event whole n (suc c) k (l ∷ ls) = cond (is_event (event_line n l)) (bad_event whole n c (k + 1) ls) k

unfoldable pub bad_by : Bool → ℕ → ℕ → List (List ℕ) → Option ℕ → ℕ
bad_by whole n k ls None = k
bad_by whole n k ls (Some c) = bad_event whole n c (k + 1) (drop 1 ls)

-- the same from the line events= on; a missing line reads as an empty one, which is bad
unfoldable pub bad_in : Bool → ℕ → ℕ → List (List ℕ) → ℕ
bad_in whole n k ls = bad_by whole n k ls (events_line (piece_at ls 0))

-- a page that is read, and the first bad line of its events
unfoldable pub with_bad : Read → ℕ → Read
with_bad f k = cond (eqb k 0) f (record { file = Err (BadLine k); words = f.words; numbers = f.numbers })

unfoldable pub with_events : Bool → List ℕ → Read → Result Head PageError → Read
with_events whole s f (Err (BadLine k)) = f
with_events whole s f (Ok h) = with_bad f (bad_in whole h.count (event_number s) (event_part s))

unfoldable pub trace_of : Bool → ℕ → ℕ → List ℕ → Read
trace_of whole lw lx s = let f = page_file lw lx (page_part s) in with_events whole s f f.file

-- of a file over 524,287 bytes that much is read, and the line after it is missing
abbrev pub read_part : List ℕ → List ℕ
read_part s = take 524287 s

-- a trace file for tables of lw words and lx numbers: its page, or the number of its first bad line
unfoldable pub trace_file : ℕ → ℕ → List ℕ → Read
trace_file lw lx s = trace_of (leb (length s) 524287) lw lx (read_part s)

-- its events, for a page of n nodes
unfoldable pub trace_events : ℕ → List ℕ → List Event
trace_events n s = events_of n (drop 1 (event_part (read_part s)))

-- where the events start
pub record Begins (s : List ℕ) (r : Start) : Type 0 where
  pub within : r.at ≤ length s
  pub place : r.at ≡ (before_events true s).0
  pub number : r.line ≡ event_number s
  pub low : r.line ≤ length s + 1
