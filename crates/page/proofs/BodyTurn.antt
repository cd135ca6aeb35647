-- One line of a page's nodes: what it does to the tables, and to the lines that are left. Assumes nothing.
use mathlib.Core.Path.{◌≡◌, refl, ◌∙◌, ap}
use mathlib.Core.Bool.{Bool, cond, ◌&&◌}
use mathlib.Core.List.{List, [], ◌∷◌}
use Prim.Native.Nat.{ℕ, suc, ◌+◌, ◌-◌, ◌*◌, ◌<◌, ◌≤◌}
use native.Mathlib.Omega.{arith}
use lib.ListN.{length, set, take, drop, drop_of_length-le, length-drop}
use lib.Seq.{sets}
use lib.Dec.{eqb}
use lib.Ieee.{Float}
use borrow.Author.Tests.{lt-ltb, le-ltb}
use Rattle.style.specs.Style.{number_place}
use Rattle.text.specs.Pieces.{lines_of, Ends}
use Rattle.text.specs.Laws.{first_line, no_lines}
use Rattle.lines.specs.declared.NodeWords.{NodeWords}
use Rattle.lines.specs.declared.FieldNumber.{FieldNumber}
use Rattle.page.specs.Body.{Tables, tables, Step, Stop, Go, node_step, num_step, body_line, Wrong, Right, rest, Stepped}

pub node_stop : (n : ℕ) (t : Tables) (w : NodeWords) → n ≤ t.count → node_step n t w ≡ Stop
unfolding node_step
node_stop n t w h = rw (le-ltb t.count n h)

pub node_go : (n : ℕ) (t : Tables) (w : NodeWords) → t.count < n → node_step n t w ≡ Go (tables (t.count + 1) (sets t.words (4 * t.count) (w.size ∷ w.style ∷ w.low ∷ w.high ∷ [])) t.numbers)
unfolding node_step
node_go n t w h = rw (lt-ltb t.count n h)

pub num_stop : (n : ℕ) (t : Tables) (x : FieldNumber) → t.count ≡ 0 → num_step n t x ≡ Stop
unfolding num_step
num_stop n t x e = rw e

pub num_go : (n : ℕ) (t : Tables) (x : FieldNumber) → 0 < t.count → num_step n t x ≡ Go (tables t.count t.words (set t.numbers (number_place n (t.count - 1) x.field) x.value))
unfolding num_step
num_go n t x h = rw (lt-ltb 0 t.count h)

module _ (whole : Bool) (n k : ℕ) (t : Tables) (l : List ℕ) (ls : List (List ℕ)) where
  rest-stop : body_line n t l ≡ Stop → rest whole n k t (l ∷ ls) ≡ Wrong k
  unfolding rest
  rest-stop h = rw (h, rest)

  rest-go : (u : Tables) → body_line n t l ≡ Go u → rest whole n k t (l ∷ ls) ≡ rest whole n (k + 1) u ls
  unfolding rest
  rest-go u h = rw (h, rest)

-- the lines left at place `at`, one line further
module _ (whole : Bool) (n k : ℕ) (t : Tables) (s : List ℕ) (at e : ℕ) (within : at < length s) (ends : Ends 10 at s e) where
  lines_are : lines_of (drop at s) ≡ take (e - at) (drop at s) ∷ lines_of (drop (e + 1) s)
  lines_are =
      let l : 0 < length (drop at s) = simp length-drop (omega arith) in
      rw (ends.piece, ends.rest) (first_line (drop at s) l)

  pub turn-stop : body_line n t (take (e - at) (drop at s)) ≡ Stop → rest whole n k t (lines_of (drop at s)) ≡ Wrong k
  turn-stop h = ap (rest whole n k t) lines_are ∙ rest-stop whole n k t (take (e - at) (drop at s)) (lines_of (drop (e + 1) s)) h

  pub turn-go : (u : Tables) → body_line n t (take (e - at) (drop at s)) ≡ Go u → rest whole n k t (lines_of (drop at s)) ≡ rest whole n (k + 1) u (lines_of (drop (e + 1) s))
  turn-go u h = ap (rest whole n k t) lines_are ∙ rest-go whole n k t (take (e - at) (drop at s)) (lines_of (drop (e + 1) s)) u h

-- no line is left
pub at_end : (whole : Bool) (n k : ℕ) (t : Tables) (s : List ℕ) (at : ℕ) → length s ≤ at → rest whole n k t (lines_of (drop at s)) ≡ cond (whole && eqb t.count n) (Right t) (Wrong k)
unfolding rest
at_end whole n k t s at h = rw (drop_of_length-le s h, no_lines)

-- four stores, one after the other
pub four : (l : List ℕ) (i a b c d : ℕ) → sets l i (a ∷ b ∷ c ∷ d ∷ []) ≡ set (set (set (set l i a) (i + 1) b) (i + 2) c) (i + 3) d
four l i a b c d =
    let p : i + 1 ≡ suc i = omega arith in
    let q : i + 2 ≡ suc (suc i) = omega arith in
    let r : i + 3 ≡ suc (suc (suc i)) = omega arith in
    rw (p, q, r)

-- what a call for one line says of the lines that are left
module _ (whole : Bool) (n k : ℕ) (t : Tables) (s : List ℕ) (at e : ℕ) (within : at < length s) (ends : Ends 10 at s e) (r : ℕ) (ws : List ℕ) (xs : List Float) where
  goes : (z : Step) → body_line n t (take (e - at) (drop at s)) ≡ z → Stepped n z t r ws xs → r ≤ n → (rest whole n k t (lines_of (drop at s)) ≡ rest whole n (k + 1) (tables r ws xs) (lines_of (drop (e + 1) s))) × (length ws ≡ length t.words) × (length xs ≡ length t.numbers)
  goes Stop h p l = absurd (omega arith)
  goes (Go u) h p l = (turn-go whole n k t s at e within ends (tables r ws xs) (h ∙ ap Go p.1), p.2, p.3)

  pub goes_on : Stepped n (body_line n t (take (e - at) (drop at s))) t r ws xs → r ≤ n → (rest whole n k t (lines_of (drop at s)) ≡ rest whole n (k + 1) (tables r ws xs) (lines_of (drop (e + 1) s))) × (length ws ≡ length t.words) × (length xs ≡ length t.numbers)
  goes_on p l = goes (body_line n t (take (e - at) (drop at s))) refl p l

  stops : (z : Step) → body_line n t (take (e - at) (drop at s)) ≡ z → Stepped n z t r ws xs → n < r → (rest whole n k t (lines_of (drop at s)) ≡ Wrong k) × (ws ≡ t.words) × (xs ≡ t.numbers)
  stops Stop h p l = (turn-stop whole n k t s at e within ends h, p.1, p.2)
  stops (Go u) h p l = absurd (omega arith)

  pub stops-here : Stepped n (body_line n t (take (e - at) (drop at s))) t r ws xs → n < r → (rest whole n k t (lines_of (drop at s)) ≡ Wrong k) × (ws ≡ t.words) × (xs ≡ t.numbers)
  stops-here p l = stops (body_line n t (take (e - at) (drop at s))) refl p l
