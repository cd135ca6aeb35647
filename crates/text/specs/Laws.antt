-- Where piece k and line k stand in a text. Assumes nothing.
use Rattle.std.specs.Prelude.{◌≡◌, refl, Bool, true, false, cond, not, ◌&&◌, List, [], ◌∷◌, ℕ, zero, suc, ◌-◌, ◌<◌, ◌≤◌, length, take, drop, eqb, leb, None, Some}
use Rattle.std.proofs.Common.{sym, ◌∙◌, ap, true≢false, arith, length-drop, take_all, leb-true}
use Rattle.std.proofs.Math.Dec.{eqb-suc-zero}
use Rattle.text.specs.Pieces.{longer, split, less_blank, lines_of, piece_at, starts_with, up_to, past, Starts, Ends}
use Rattle.text.specs.Values.{all_digits, value_from, value_of}

-- is there a separator?
abbrev parted : ℕ → List ℕ → Bool
parted c [] = false
parted c (b ∷ s) = cond (eqb b c) true (parted c s)

abbrev rests : ℕ → List ℕ → List (List ℕ)
rests c s = cond (parted c s) (split c (past c 1 s)) []

split_by : (c b : ℕ) (s : List ℕ) (e : Bool) → eqb b c ≡ e → split c s ≡ up_to c s ∷ rests c s → split c (b ∷ s) ≡ up_to c (b ∷ s) ∷ rests c (b ∷ s)
unfolding split up_to past longer
split_by c b s true q h = rw q
split_by c b s false q h = rw (q, h)

-- the first piece, and the pieces past it
split_is : (c : ℕ) (s : List ℕ) → split c s ≡ up_to c s ∷ rests c s
unfolding split up_to
split_is c [] = refl
split_is c (b ∷ s) = split_by c b s (eqb b c) refl (split_is c s)

past_by_lem : (c k b : ℕ) (s : List ℕ) (e : Bool) → eqb b c ≡ e → past c k (past c 1 s) ≡ past c (suc k) s → past c k (past c 1 (b ∷ s)) ≡ past c (suc k) (b ∷ s)
unfolding past
past_by_lem c k b s true q h = rw q
past_by_lem c k b s false q h = rw q h

pub past_none : (c k : ℕ) → past c k [] ≡ []
unfolding past
past_none c zero = refl
past_none c (suc k) = refl

-- k separators past the first one
pub past_past : (c k : ℕ) (s : List ℕ) → past c k (past c 1 s) ≡ past c (suc k) s
unfolding past
past_past c k [] = past_none c k
past_past c k (b ∷ s) = past_by_lem c k b s (eqb b c) refl (past_past c k s)

unparted_by : (c k b : ℕ) (s : List ℕ) (e : Bool) → eqb b c ≡ e → (parted c s ≡ false → past c (suc k) s ≡ []) → parted c (b ∷ s) ≡ false → past c (suc k) (b ∷ s) ≡ []
unfolding past
unparted_by c k b s true q h p = let z : true ≡ false = rw q at p in absurd (true≢false z)
unparted_by c k b s false q h p = rw q (h (rw q at p))

unparted : (c k : ℕ) (s : List ℕ) → parted c s ≡ false → past c (suc k) s ≡ []
unfolding past
unparted c k [] p = refl
unparted c k (b ∷ s) p = unparted_by c k b s (eqb b c) refl (unparted c k s) p

up_none : (c : ℕ) → up_to c [] ≡ []
unfolding up_to
up_none c = refl

later : (c k : ℕ) (s : List ℕ) (e : Bool) → parted c s ≡ e → piece_at (split c (past c 1 s)) k ≡ up_to c (past c k (past c 1 s)) → piece_at (rests c s) k ≡ up_to c (past c (suc k) s)
later c k s true q h = rw q (h ∙ ap (up_to c) (past_past c k s))
later c k s false q h = rw (q, unparted c k s q) (sym (up_none c))

-- piece k is what stands past k separators, up to the next
pub piece_is : (c k : ℕ) (s : List ℕ) → piece_at (split c s) k ≡ up_to c (past c k s)
unfolding past
piece_is c zero s = rw (split_is c s)
piece_is c (suc k) s = rw (split_is c s) (later c k s (parted c s) refl (piece_is c k (past c 1 s)))

-- a text of no bytes has no line
pub no_lines : lines_of [] ≡ []
unfolding lines_of split less_blank
no_lines = refl

more_lines : (p : List ℕ) (c : ℕ) (s : List ℕ) → less_blank (p ∷ split c s) ≡ p ∷ less_blank (split c s)
unfolding less_blank
more_lines p c s = rw (split_is c s)

full : (c b : ℕ) (s : List ℕ) (e : Bool) → eqb b c ≡ e → parted c (b ∷ s) ≡ false → less_blank (up_to c (b ∷ s) ∷ []) ≡ up_to c (b ∷ s) ∷ []
unfolding less_blank up_to
full c b s true q p = let z : true ≡ false = rw q at p in absurd (true≢false z)
full c b s false q p = rw (q, eqb-suc-zero (length (up_to c s)))

first_by : (b : ℕ) (s : List ℕ) (e : Bool) → parted 10 (b ∷ s) ≡ e → less_blank (up_to 10 (b ∷ s) ∷ rests 10 (b ∷ s)) ≡ up_to 10 (b ∷ s) ∷ lines_of (past 10 1 (b ∷ s))
unfolding lines_of
first_by b s true q = rw q (more_lines (up_to 10 (b ∷ s)) 10 (past 10 1 (b ∷ s)))
first_by b s false q = rw (q, unparted 10 0 (b ∷ s) q) (full 10 b s (eqb b 10) refl q ∙ ap (λ (ls : List (List ℕ)). up_to 10 (b ∷ s) ∷ ls) (sym no_lines))

-- the first line, and those past its newline
pub first_line : (s : List ℕ) → 0 < length s → lines_of s ≡ up_to 10 s ∷ lines_of (past 10 1 s)
unfolding lines_of
first_line [] h = absurd (omega arith)
first_line (b ∷ s) h = rw (split_is 10 (b ∷ s)) (first_by b s (parted 10 (b ∷ s)) refl)

some_bytes : (b : ℕ) (s : List ℕ) → 0 < length (b ∷ s)
some_bytes b s = omega arith

-- line k is what stands past k newlines, up to the next
pub line_is : (k : ℕ) (s : List ℕ) → piece_at (lines_of s) k ≡ up_to 10 (past 10 k s)
unfolding past up_to
line_is zero [] = rw no_lines
line_is (suc k) [] = rw no_lines
line_is zero (b ∷ s) = rw (first_line (b ∷ s) (some_bytes b s))
line_is (suc k) (b ∷ s) = rw (first_line (b ∷ s) (some_bytes b s)) (line_is k (past 10 1 (b ∷ s)) ∙ ap (up_to 10) (past_past 10 k (b ∷ s)))

-- the lines past k newlines
pub lines_past : (k : ℕ) (s : List ℕ) → drop k (lines_of s) ≡ lines_of (past 10 k s)
unfolding past
lines_past zero s = refl
lines_past (suc k) [] = rw no_lines
lines_past (suc k) (b ∷ s) = rw (first_line (b ∷ s) (some_bytes b s)) (lines_past k (past 10 1 (b ∷ s)) ∙ ap lines_of (past_past 10 k (b ∷ s)))

-- what lies between the two ends of piece k
module _ (c k : ℕ) (s : List ℕ) (a e : ℕ) (starts : Starts c k s a) (ends : Ends c a s e) where
  up : take (e - a) (drop a s) ≡ up_to c (past c k s)
  up = ends.piece ∙ ap (up_to c) starts.rest

  pub piece-between : take (e - a) (drop a s) ≡ piece_at (split c s) k
  piece-between = up ∙ sym (piece_is c k s)

pub line_between : (k : ℕ) (s : List ℕ) (a e : ℕ) → Starts 10 k s a → Ends 10 a s e → take (e - a) (drop a s) ≡ piece_at (lines_of s) k
line_between k s a e starts ends = up 10 k s a e starts ends ∙ sym (line_is k s)

and_second : (a b : Bool) → a && b ≡ true → b ≡ true
and_second true b e = e
and_second false b e = absurd (true≢false (sym e))

-- a text that starts with a key is no shorter
pub starts_long : (key s : List ℕ) → starts_with key s ≡ true → length key ≤ length s
unfolding starts_with
starts_long [] s e = omega arith
starts_long (k ∷ key) [] e = absurd (true≢false (sym e))
starts_long (k ∷ key) (b ∷ s) e = omega (arith, starts_long key s (and_second (eqb b k) (starts_with key s) e))

-- all bytes from place k on
pub from_on : (k : ℕ) (s : List ℕ) → take (length s - k) (drop k s) ≡ drop k s
from_on k s = take_all (length s - k) (drop k s) (simp length-drop (omega arith))

value_by : (a b c : Bool) (v w limit : ℕ) → leb w limit ≡ c → cond (a && (b && c)) (Some w) None ≡ Some v → v ≤ limit
value_by true true true v w limit l e =
    let z : w ≡ v = cc in
    omega (arith, leb-true w limit l)
value_by true true false v w limit l e =
    let z : ◌≡◌ {A = ℕ} 0 1 = cc in
    absurd (omega arith)
value_by true false c v w limit l e =
    let z : ◌≡◌ {A = ℕ} 0 1 = cc in
    absurd (omega arith)
value_by false b c v w limit l e =
    let z : ◌≡◌ {A = ℕ} 0 1 = cc in
    absurd (omega arith)

-- a value that is read is within the limit
pub value_within : (base limit : ℕ) (s : List ℕ) (v : ℕ) → value_of base limit s ≡ Some v → v ≤ limit
unfolding value_of
value_within base limit s v e =
    value_by (not (eqb (length s) 0)) (all_digits base s) (leb (value_from base 0 s) limit) v (value_from base 0 s) limit refl e
