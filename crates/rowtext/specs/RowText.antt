-- What is printed of a row: node, order, bits and sixteen numbers.
use Rattle.std.specs.Prelude.{List, [], ◌∷◌, ◌++◌, ℕ, ◌+◌, ◌*◌, ◌≤◌, length, get_or, Float}
use Rattle.std.proofs.Common.{arith, length-append}
use Rattle.geometry.specs.Geometry.{zero_f}
use Rattle.print.specs.Text.{decimal, hex_text, count_text, number_text, newline, each}
use Rattle.print.specs.Sizes.{decimal_short, hex_long, count_short, number_long, each_short}

abbrev pub row= : List ℕ
row= = 114 ∷ 111 ∷ 119 ∷ 61 ∷ []

-- a comma and a bit pattern
unfoldable pub bits_text : ℕ → List ℕ
bits_text w = 44 ∷ hex_text 8 w

-- number k of row i
unfoldable pub row_number : List Float → ℕ → ℕ → List ℕ
row_number rs i k = number_text (get_or rs (16 * i + k) zero_f)

-- the line of node i
unfoldable pub row_line : List Float → List ℕ → ℕ → List ℕ
row_line rs ms i =
    row= ++ decimal 20 i ++ count_text (get_or ms (2 * i) 0) ++ bits_text (get_or ms (2 * i + 1) 0) ++ each (row_number rs i) 16 ++ newline

number_short : (rs : List Float) (i k : ℕ) → length (row_number rs i k) ≤ 9
unfolding row_number
number_short rs i k = omega (arith, number_long (get_or rs (16 * i + k) zero_f))

-- it has at most 199 bytes
pub row_short : (rs : List Float) (ms : List ℕ) (i : ℕ) → length (row_line rs ms i) ≤ 199
unfolding row_line bits_text
row_short rs ms i =
    simp length-append
    (omega (arith, decimal_short 20 i, count_short (get_or ms (2 * i) 0), hex_long 8 (get_or ms (2 * i + 1) 0), each_short (row_number rs i) 9 (number_short rs i) 16))
