-- How long the printed texts are at most. Assumes nothing.
use Rattle.steps.specs.declared.Refusal.{Refusal}
use Rattle.std.specs.Prelude.{◌≡◌, refl, Bool, true, false, cond, List, [], ◌∷◌, ◌++◌, ℕ, zero, suc, ◌+◌, ◌*◌, ◌/◌, ◌%◌, ◌≤◌, length, ltb, eqb, Float, Result}
use Rattle.std.proofs.Common.{arith, mul-suc, length-append}
use Rattle.std.specs.Float.{binary32}
use Rattle.std.specs.Float.Ieee.{to_bits}
use Rattle.steps.specs.Row.{Row, row_at, is_laid}
use Rattle.steps.specs.Noes.{paper}
use Rattle.print.specs.Text.{glyph, decimal, hex_text, count_text, number_text, box_text, box_of, box_at, each, candidate_text, candidate_line, candidate_at, count_line, answer_text, accepted_text, page_text, bad_text}

digits_by : (k n : ℕ) (b : Bool) → length (decimal k (n / 10)) ≤ k → length (cond b (glyph n ∷ []) (decimal k (n / 10) ++ (glyph (n % 10) ∷ []))) ≤ suc k
digits_by k n true h = omega arith
digits_by k n false h = simp length-append (omega arith)

pub decimal_short : (k n : ℕ) → length (decimal k n) ≤ k
unfolding decimal
decimal_short zero n = omega arith
decimal_short (suc k) n = digits_by k n (ltb n 10) (decimal_short k (n / 10))

pub hex_long : (k w : ℕ) → length (hex_text k w) ≡ k
unfolding hex_text
hex_long zero w = refl
hex_long (suc k) w = simp length-append (omega (arith, hex_long k (w / 16)))

pub count_short : (n : ℕ) → length (count_text n) ≤ 21
unfolding count_text
count_short n = omega (arith, decimal_short 20 n)

pub number_long : (x : Float) → length (number_text x) ≡ 9
unfolding number_text
number_long x = omega (arith, hex_long 8 (to_bits binary32 x))

box_short : (i order : ℕ) (x y w h : Float) → length (box_text i order x y w h) ≤ 82
unfolding box_text
box_short i order x y w h =
    simp length-append (omega (arith, decimal_short 20 i, count_short order, number_long x, number_long y, number_long w, number_long h))

box_by_lem : (i : ℕ) (r : Row) (b : Bool) → length (cond b (box_text i r.order r.place.x r.place.y r.answer.size.width r.answer.size.height) []) ≤ 82
box_by_lem i r true = box_short i r.order r.place.x r.place.y r.answer.size.width r.answer.size.height
box_by_lem i r false = omega arith

box_at_short : (rs : List Float) (ms : List ℕ) (i : ℕ) → length (box_at rs ms i) ≤ 82
unfolding box_at box_of
box_at_short rs ms i = box_by_lem i (row_at rs ms i) (is_laid (row_at rs ms i))

candidate_short : (ws : List ℕ) (xs : List Float) (i : ℕ) → length (candidate_line (candidate_at ws xs i)) ≤ 74
unfolding candidate_line candidate_text
candidate_short ws xs i =
    let c = candidate_at ws xs i in
    simp length-append (omega (arith, decimal_short 20 c.node, count_short c.order, number_long c.start, number_long c.end, number_long c.line))

pub each_short : (f : ℕ → List ℕ) (m : ℕ) → ((i : ℕ) → length (f i) ≤ m) → (n : ℕ) → length (each f n) ≤ m * n
unfolding each
each_short f m h zero = omega arith
each_short f m h (suc n) = simp length-append (omega (arith, each_short f m h n, h n, mul-suc m n))

laid_short : (n : ℕ) (rs : List Float) (ms : List ℕ) (count : ℕ) (ws : List ℕ) (xs : List Float) → length (accepted_text n rs ms count ws xs) ≤ 82 * n + 74 * count + 32
unfolding accepted_text count_line
laid_short n rs ms count ws xs =
    simp length-append
    (omega (arith, each_short (box_at rs ms) 82 (box_at_short rs ms) n, decimal_short 20 count, each_short (λ (i : ℕ). candidate_line (candidate_at ws xs i)) 74 (candidate_short ws xs) count))

page_by : (b : Bool) (n k count : ℕ) (rs : List Float) (ms ws : List ℕ) (xs : List Float) → (b ≡ true → count ≤ k) → length (cond b (accepted_text n rs ms count ws xs) []) ≤ 82 * n + 74 * k + 32
page_by true n k count rs ms ws xs h = omega (arith, laid_short n rs ms count ws xs, h refl)
page_by false n k count rs ms ws xs h = omega arith

-- an answer with at most k candidates
pub page_short : (a : Result ℕ Refusal) (n k : ℕ) (rs : List Float) (ms ws : List ℕ) (xs : List Float) → (eqb (paper a).0 0 ≡ true → (paper a).1 ≤ k) → length (page_text a n rs ms ws xs) ≤ 82 * n + 74 * k + 81
unfolding page_text answer_text
page_short a n k rs ms ws xs h =
    simp length-append
    (omega (arith, decimal_short 20 (paper a).0, count_short (paper a).1, page_by (eqb (paper a).0 0) n k (paper a).1 rs ms ws xs h))

-- a bad line
pub bad_short : (k : ℕ) → length (bad_text k) ≤ 29
unfolding bad_text count_line
bad_short k = simp length-append (omega (arith, decimal_short 20 k))
