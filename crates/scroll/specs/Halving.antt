-- Halving, and what it looks for.
use Rattle.std.specs.Prelude.{◌≡◌, Bool, true, false, List, ℕ, zero, suc, ◌+◌, ◌-◌, ◌/◌, ◌<◌, ◌≤◌, get_or, ltb, Float}
use Rattle.std.specs.Float.{nan}
use Rattle.std.specs.Float.Ieee.{lt}

-- place k holds a greater number than y; past the end stands no number
abbrev pub beyond : List Float → Float → ℕ → Bool
beyond l y k = lt y (get_or l k nan)

-- k is the first of n places that p takes, and n if it takes none
pub record First (p : ℕ → Bool) (n k : ℕ) : Type 0 where
  pub within : k ≤ n
  pub before : (j : ℕ) → j < k → p j ≡ false
  pub here : k < n → p k ≡ true

-- the middle of the places from lo on and below hi
abbrev pub middle : ℕ → ℕ → ℕ
middle lo hi = lo + (hi - lo) / 2

-- The places from lo on and below hi: p of the middle one says which half is left. At most k halvings.
unfoldable pub halved : (ℕ → Bool) → ℕ → ℕ → ℕ → ℕ
halved p zero lo hi = lo
halved p (suc k) lo hi =
    elim (ltb lo hi) [
      | true ↦ elim (p (middle lo hi)) [ true ↦ halved p k lo (middle lo hi) | false ↦ halved p k (middle lo hi + 1) hi ]
      | false ↦ lo
    ]
