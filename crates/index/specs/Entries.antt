-- 9: a list of at most 256 laid leaves, strictly ascending.
use Rattle.std.specs.Prelude.{Bool, not, ◌&&◌, ◌||◌, List, ℕ, ◌+◌, ◌*◌, ◌-◌, get_or, eqb, ltb}
use Rattle.style.specs.Codes.{code_at, flag_at}
use Rattle.style.specs.Style.{word_at}
use Rattle.steps.specs.Page.{nodes_in}

-- the bits of row i; 0 past the end
abbrev pub bits_at : List ℕ → ℕ → ℕ
bits_at ms i = get_or ms (2 * i + 1) 0

-- entry k is not above entry k - 1
unfoldable pub not_above : List ℕ → ℕ → Bool
not_above list k = not (eqb k 0) && not (ltb (get_or list (k - 1) 0) (get_or list k 0))

-- node i is no laid leaf: not below n, not a leaf, or bit 0 of its row clear
unfoldable pub no_laid_leaf : List ℕ → List ℕ → ℕ → Bool
no_laid_leaf ws ms i = not (ltb i (nodes_in ws)) || (not (eqb (code_at (word_at ws i 1) 0) 1) || not (flag_at (bits_at ms i) 0))

-- entry k is at fault
unfoldable pub bad_entry : List ℕ → List ℕ → List ℕ → ℕ → Bool
bad_entry ws ms list k = not_above list k || no_laid_leaf ws ms (get_or list k 0)
