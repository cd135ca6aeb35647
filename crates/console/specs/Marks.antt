-- A text of several files, each ended by a mark, the last one perhaps by the end.
use Rattle.std.specs.Prelude.{◌≡◌, ◌<◌, ◌⊎◌, ℕ, List, [], ◌∷◌, ◌++◌, length, take, drop}

-- four `=` and a newline
abbrev pub mark : List ℕ
mark = 61 ∷ 61 ∷ 61 ∷ 61 ∷ 10 ∷ []

-- a mark stands at place k
abbrev pub HasMarkAt : List ℕ → ℕ → Type 0
HasMarkAt text k = take 5 (drop k text) ≡ mark

-- the text before the first mark, and the text behind that mark; with no mark all of it, and nothing
pub record SplitsAtMark (text before behind : List ℕ) : Type 0 where
  pub joined : (text ≡ before ++ (mark ++ behind)) ⊎ ((before ≡ text) × (behind ≡ []))
  pub first : (k : ℕ) → k < length before → ¬ HasMarkAt text k
