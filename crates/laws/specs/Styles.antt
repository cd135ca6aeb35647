-- A style is what the node's words and numbers say.
use Rattle.std.specs.Prelude.{◌≡◌, List, ℕ, Float}
use Rattle.std.proofs.Common.{arith}
use Rattle.style.specs.Style.{length_at, size_at, rect_at, measure_at, style_at}
use Rattle.laws.specs.Tables.{SameAt}

-- a node with the same words and numbers has the same style
pub same_style : (ws : List ℕ) (xs : List Float) (ws' : List ℕ) (xs' : List Float) (i : ℕ) → SameAt ws xs ws' xs' i → style_at ws i xs i ≡ style_at ws' i xs' i
unfolding style_at length_at size_at rect_at measure_at
same_style ws xs ws' xs' i h =
    let w = h.words in
    let x = h.numbers in
    rw (w 1 (omega arith), w 2 (omega arith), w 3 (omega arith), x 0 (omega arith), x 1 (omega arith), x 2 (omega arith), x 3 (omega arith), x 4 (omega arith), x 5 (omega arith), x 6 (omega arith), x 7 (omega arith), x 8 (omega arith), x 9 (omega arith), x 10 (omega arith), x 11 (omega arith), x 12 (omega arith), x 13 (omega arith), x 14 (omega arith), x 15 (omega arith), x 16 (omega arith), x 17 (omega arith), x 18 (omega arith), x 19 (omega arith), x 20 (omega arith), x 21 (omega arith), x 22 (omega arith), x 23 (omega arith), x 24 (omega arith), x 25 (omega arith), x 26 (omega arith), x 27 (omega arith))
