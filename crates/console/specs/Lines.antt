-- What is written of a line of numbers: for each of their words a blank and eight digits, and a newline behind them.
use Rattle.std.specs.Prelude.{◌≡◌, ℕ, List, [], ◌∷◌, ◌++◌}
use Rattle.console.specs.Digits.{eight_hex}

-- a blank and eight digits for each
abbrev pub blanks_and_words : List ℕ → List ℕ
blanks_and_words [] = []
blanks_and_words (w ∷ ws) = 32 ∷ (eight_hex w ++ blanks_and_words ws)

abbrev pub line_of : List ℕ → List ℕ
line_of ws = blanks_and_words ws ++ (10 ∷ [])

-- as many words as numbers, each one that its number may have
abbrev pub Worded : {T : Type 0} → (T → ℕ → Type 0) → List T → List ℕ → Type 0
Worded says [] [] = Unit {0}
Worded says [] (w ∷ ws) = ⊥
Worded says (x ∷ xs) [] = ⊥
Worded says (x ∷ xs) (w ∷ ws) = says x w × Worded says xs ws
