-- A text in pieces: fields parted by commas, lines ended by newlines.
use Rattle.std.specs.Prelude.{◌≡◌, Bool, true, false, cond, ◌&&◌, List, [], ◌∷◌, ℕ, zero, suc, ◌+◌, ◌-◌, ◌≤◌, length, take, drop, get_or, eqb}

abbrev pub bit : Bool → ℕ
bit b = cond b 1 0

-- a byte at the front of the first piece
unfoldable pub longer : ℕ → List (List ℕ) → List (List ℕ)
longer b [] = []
longer b (p ∷ ps) = (b ∷ p) ∷ ps

-- the pieces between separators, one more than there are separators
unfoldable pub split : ℕ → List ℕ → List (List ℕ)
split c [] = [] ∷ []
split c (b ∷ s) = cond (eqb b c) ([] ∷ split c s) (longer b (split c s))

-- a last piece that is empty is left out
unfoldable pub less_blank : List (List ℕ) → List (List ℕ)
less_blank [] = []
less_blank (p ∷ []) = cond (eqb (length p) 0) [] (p ∷ [])
less_blank (p ∷ q ∷ ps) = p ∷ less_blank (q ∷ ps)

-- lines end with a newline, which the last one may lack
unfoldable pub lines_of : List ℕ → List (List ℕ)
lines_of s = less_blank (split 10 s)

-- piece k, empty if there is none
abbrev pub piece_at : List (List ℕ) → ℕ → List ℕ
piece_at ps k = get_or ps k []

-- these bytes stand at the start
unfoldable pub starts_with : List ℕ → List ℕ → Bool
starts_with [] s = true
starts_with (k ∷ key) [] = false
starts_with (k ∷ key) (b ∷ s) = eqb b k && starts_with key s

-- the same bytes and no more
unfoldable pub same : List ℕ → List ℕ → Bool
same key s = eqb (length s) (length key) && starts_with key s

-- the text up to the first separator
unfoldable pub up_to : ℕ → List ℕ → List ℕ
up_to c [] = []
up_to c (b ∷ s) = cond (eqb b c) [] (b ∷ up_to c s)

-- the text past k separators, empty if there are fewer
unfoldable pub past : ℕ → ℕ → List ℕ → List ℕ
past c zero s = s
past c (suc k) [] = []
past c (suc k) (b ∷ s) = cond (eqb b c) (past c k s) (past c (suc k) s)

-- r is where piece k starts
pub record Starts (c k : ℕ) (s : List ℕ) (r : ℕ) : Type 0 where
  pub within : r ≤ length s
  pub rest : drop r s ≡ past c k s

-- r is where the piece from `from` on ends
pub record Ends (c from : ℕ) (s : List ℕ) (r : ℕ) : Type 0 where
  pub after : from ≤ r
  pub within : r ≤ length s
  pub piece : take (r - from) (drop from s) ≡ up_to c (drop from s)
  pub rest : drop (r + 1) s ≡ past c 1 (drop from s)
