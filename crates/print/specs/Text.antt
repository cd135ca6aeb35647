-- What the program prints, line by line.
use Rattle.steps.specs.declared.Refusal.{Refusal}
use Rattle.std.specs.Prelude.{cond, List, [], ◌∷◌, ◌++◌, ℕ, zero, suc, ◌+◌, ◌*◌, ◌/◌, ◌%◌, get_or, ltb, eqb, Float, Result}
use Rattle.std.specs.Float.{binary32}
use Rattle.std.specs.Float.Ieee.{to_bits}
use Rattle.geometry.specs.Geometry.{zero_f}
use Rattle.steps.specs.Row.{Row, row_at, is_laid}
use Rattle.steps.specs.Candidates.{Candidate}
use Rattle.steps.specs.Noes.{paper}

-- a digit below 16 as a byte, lower case
abbrev pub glyph : ℕ → ℕ
glyph d = cond (ltb d 10) (48 + d) (87 + d)

-- a number of at most k decimal digits, with no leading zero
unfoldable pub decimal : ℕ → ℕ → List ℕ
decimal zero n = []
decimal (suc k) n = cond (ltb n 10) (glyph n ∷ []) (decimal k (n / 10) ++ (glyph (n % 10) ∷ []))

-- the last k hex digits
unfoldable pub hex_text : ℕ → ℕ → List ℕ
hex_text zero w = []
hex_text (suc k) w = hex_text k (w / 16) ++ (glyph (w % 16) ∷ [])

-- a comma and a count
unfoldable pub count_text : ℕ → List ℕ
count_text n = 44 ∷ decimal 20 n

-- a comma and a number's bit pattern
unfoldable pub number_text : Float → List ℕ
number_text x = 44 ∷ hex_text 8 (to_bits binary32 x)

-- the keys, as bytes
abbrev pub box= : List ℕ
box= = 98 ∷ 111 ∷ 120 ∷ 61 ∷ []

abbrev pub cand= : List ℕ
cand= = 99 ∷ 97 ∷ 110 ∷ 100 ∷ 61 ∷ []

abbrev pub answer= : List ℕ
answer= = 97 ∷ 110 ∷ 115 ∷ 119 ∷ 101 ∷ 114 ∷ 61 ∷ []

abbrev pub candidates= : List ℕ
candidates= = 99 ∷ 97 ∷ 110 ∷ 100 ∷ 105 ∷ 100 ∷ 97 ∷ 116 ∷ 101 ∷ 115 ∷ 61 ∷ []

abbrev pub badline= : List ℕ
badline= = 98 ∷ 97 ∷ 100 ∷ 108 ∷ 105 ∷ 110 ∷ 101 ∷ 61 ∷ []

abbrev pub newline : List ℕ
newline = 10 ∷ []

-- a box: node, order, x, y, w, h
unfoldable pub box_text : ℕ → ℕ → Float → Float → Float → Float → List ℕ
box_text i order x y w h = box= ++ decimal 20 i ++ count_text order ++ number_text x ++ number_text y ++ number_text w ++ number_text h ++ newline

-- the line of a laid node; others have none
unfoldable pub box_of : ℕ → Row → List ℕ
box_of i r = cond (is_laid r) (box_text i r.order r.place.x r.place.y r.answer.size.width r.answer.size.height) []

unfoldable pub box_at : List Float → List ℕ → ℕ → List ℕ
box_at rs ms i = box_of i (row_at rs ms i)

-- lines of 0, 1 and so on, n in all
unfoldable pub each : (ℕ → List ℕ) → ℕ → List ℕ
each f zero = []
each f (suc n) = each f n ++ f n

-- record i of the lent slices
unfoldable pub candidate_at : List ℕ → List Float → ℕ → Candidate
candidate_at ws xs i =
    record {
      node = get_or ws (2 * i) 0;
      order = get_or ws (2 * i + 1) 0;
      start = get_or xs (3 * i) zero_f;
      end = get_or xs (3 * i + 1) zero_f;
      line = get_or xs (3 * i + 2) zero_f;
    }

-- a candidate: its five fields
unfoldable pub candidate_text : ℕ → ℕ → Float → Float → Float → List ℕ
candidate_text node order start end line = cand= ++ decimal 20 node ++ count_text order ++ number_text start ++ number_text end ++ number_text line ++ newline

unfoldable pub candidate_line : Candidate → List ℕ
candidate_line c = candidate_text c.node c.order c.start c.end c.line

-- a key and one number
unfoldable pub count_line : List ℕ → ℕ → List ℕ
count_line key n = key ++ decimal 20 n ++ newline

-- the answer: number and place, or 0 and the count
unfoldable pub answer_text : ℕ → ℕ → List ℕ
answer_text number place = answer= ++ decimal 20 number ++ count_text place ++ newline

-- an accepted page: boxes, the count of candidates, the candidates
unfoldable pub accepted_text : ℕ → List Float → List ℕ → ℕ → List ℕ → List Float → List ℕ
accepted_text n rs ms count ws xs = each (box_at rs ms) n ++ count_line candidates= count ++ each (λ i. candidate_line (candidate_at ws xs i)) count

-- a refusal prints only its answer line
unfoldable pub page_text : Result ℕ Refusal → ℕ → List Float → List ℕ → List ℕ → List Float → List ℕ
page_text a n rs ms ws xs = answer_text (paper a).0 (paper a).1 ++ cond (eqb (paper a).0 0) (accepted_text n rs ms (paper a).1 ws xs) []

-- a bad line prints only its number
unfoldable pub bad_text : ℕ → List ℕ
bad_text k = count_line badline= k
