-- The lines of the events, one after the other. Assumes nothing.
use Rattle.std.specs.Prelude.{Option, None, Some, is_some}
use mathlib.Core.Path.{◌≡◌, refl, sym, ◌∙◌, ap}
use mathlib.Core.Bool.{Bool, true, false, cond, ◌&&◌}
use mathlib.Core.List.{List, ◌∷◌}
use Prim.Native.Nat.{ℕ, zero, suc, ◌+◌, ◌-◌, ◌<◌, ◌≤◌}
use native.Mathlib.Omega.{arith}
use lib.ListN.{length, take, drop, length-drop, drop_of_length-le}
use lib.Dec.{eqb}
use Rattle.text.specs.Pieces.{lines_of, piece_at, past, Starts, Ends}
use Rattle.text.specs.Laws.{first_line, no_lines, line_is, lines_past, from_on}
use Rattle.day.specs.declared.Event.{Event}
use Rattle.trace.specs.Event.{event_line, is_event}
use Rattle.trace.specs.File.{events_line, bad_event, bad_by, bad_in}

-- the line at a place, and those past it
pub lines_at : (s : List ℕ) (at e : ℕ) → at < length s → Ends 10 at s e → lines_of (drop at s) ≡ take (e - at) (drop at s) ∷ lines_of (drop (e + 1) s)
lines_at s at e h ends =
    let l : 0 < length (drop at s) = simp length-drop (omega arith) in
    rw (ends.piece, ends.rest) (first_line (drop at s) l)

-- the first line, and those past it
module _ (s : List ℕ) (e : ℕ) (ends : Ends 10 0 s e) where
  pub line_first : take e s ≡ piece_at (lines_of s) 0
  unfolding past
  line_first =
      let z : e - 0 ≡ e = omega arith in
      (rw z at ends.piece) ∙ sym (line_is 0 s)

  pub lines_rest : lines_of (drop (e + 1) s) ≡ drop 1 (lines_of s)
  lines_rest = ap lines_of ends.rest ∙ sym (lines_past 1 s)

module _ (whole : Bool) (n : ℕ) where
  too_many : (k : ℕ) (l : List ℕ) (ls : List (List ℕ)) → bad_event whole n 0 k (l ∷ ls) ≡ k
  unfolding bad_event
  too_many k l ls = refl

  no-event : (c k : ℕ) (l : List ℕ) (ls : List (List ℕ)) → is_event (event_line n l) ≡ false → bad_event whole n c k (l ∷ ls) ≡ k
  unfolding bad_event
  no-event zero k l ls e = refl
  no-event (suc c) k l ls e = rw e

  next-event : (c k : ℕ) (l : List ℕ) (ls : List (List ℕ)) → 0 < c → is_event (event_line n l) ≡ true → bad_event whole n c k (l ∷ ls) ≡ bad_event whole n (c - 1) (k + 1) ls
  unfolding bad_event
  next-event zero k l ls h e = absurd (omega arith)
  next-event (suc c) k l ls h e =
      let z : suc c - 1 ≡ c = omega arith in
      rw (e, z)

  -- one line further
  module _ (c k : ℕ) (s : List ℕ) (at e : ℕ) (h : at < length s) (ends : Ends 10 at s e) where
    pub turn-full : c ≡ 0 → bad_event whole n c k (lines_of (drop at s)) ≡ k
    turn-full z = rw (z, lines_at s at e h ends) (too_many k (take (e - at) (drop at s)) (lines_of (drop (e + 1) s)))

    pub turn-bad : is_event (event_line n (take (e - at) (drop at s))) ≡ false → bad_event whole n c k (lines_of (drop at s)) ≡ k
    turn-bad z = rw (lines_at s at e h ends) (no-event c k (take (e - at) (drop at s)) (lines_of (drop (e + 1) s)) z)

    pub turn_on : 0 < c → is_event (event_line n (take (e - at) (drop at s))) ≡ true → bad_event whole n c k (lines_of (drop at s)) ≡ bad_event whole n (c - 1) (k + 1) (lines_of (drop (e + 1) s))
    turn_on p z = rw (lines_at s at e h ends) (next-event c k (take (e - at) (drop at s)) (lines_of (drop (e + 1) s)) p z)

  -- no line is left
  pub at_end : (c k : ℕ) (s : List ℕ) (at : ℕ) → length s ≤ at → bad_event whole n c k (lines_of (drop at s)) ≡ cond (whole && eqb c 0) 0 k
  unfolding bad_event
  at_end c k s at h = rw (drop_of_length-le s h, no_lines)

-- the line events= says how many, or is bad
module _ (whole : Bool) (n k : ℕ) (s : List ℕ) (e : ℕ) (ends : Ends 10 0 s e) where
  pub bad-count : events_line (take e s) ≡ None → k ≡ bad_in whole n k (lines_of s)
  unfolding bad_in bad_by
  bad-count z = rw (← line_first s e ends, z)

  pub good-count : (c : ℕ) → events_line (take e s) ≡ Some c → bad_event whole n c (k + 1) (lines_of (drop (e + 1) s)) ≡ bad_in whole n k (lines_of s)
  unfolding bad_in bad_by
  good-count c z = rw (← line_first s e ends, z, lines_rest s e ends)

pub some_event : (e : Option Event) → is_some e ≡ is_event e
unfolding is_event
some_event None = refl
some_event (Some e) = refl

-- what stands past the first separator
pub past_first : (c : ℕ) (s : List ℕ) (a : ℕ) → Starts c 1 s a → take (length s - a) (drop a s) ≡ past c 1 s
past_first c s a starts = from_on a s ∙ starts.rest
