-- The lines after the first five: a node's four words, and numbers of the node above.
use Rattle.std.specs.Prelude.{◌≡◌, Bool, cond, ◌&&◌, List, [], ◌∷◌, ℕ, ◌+◌, ◌-◌, ◌*◌, ◌<◌, ◌≤◌, length, set, eqb, ltb, Float, Option, None, Some, MatchOption}
use Rattle.std.proofs.lemmas.List.Edits.{sets}
use Rattle.style.specs.Style.{number_place}
use Rattle.lines.specs.Lines.{node_line, num_line}
use Rattle.lines.specs.declared.NodeWords.{NodeWords}
use Rattle.lines.specs.declared.FieldNumber.{FieldNumber}
use Rattle.page.specs.declared.PageError.TheVariants.{BadLine}
use Rattle.page.specs.declared.PageError.{PageError}

-- the tables so far, and how many nodes are written in them
pub record Tables : Type 0 where
  pub count : ℕ
  pub words : List ℕ
  pub numbers : List Float

abbrev pub tables : ℕ → List ℕ → List Float → Tables
tables n ws xs = record { count = n; words = ws; numbers = xs }

-- a line changes the tables, or is bad
pub data Step : Type 0 where
  Stop : Step
  Go : Tables → Step

-- the next node's four words
unfoldable pub node_step : ℕ → Tables → NodeWords → Step
node_step n t w =
    cond (ltb t.count n)
    (Go (tables (t.count + 1) (sets t.words (4 * t.count) (w.size ∷ w.style ∷ w.low ∷ w.high ∷ [])) t.numbers))
    Stop

-- a number of the last node, in planes of n; the last line for a field counts
unfoldable pub num_step : ℕ → Tables → FieldNumber → Step
num_step n t x = cond (ltb 0 t.count) (Go (tables t.count t.words (set t.numbers (number_place n (t.count - 1) x.field) x.value))) Stop

unfoldable pub num_in : ℕ → Tables → Option FieldNumber → Step
num_in n t None = Stop
num_in n t (Some x) = num_step n t x

unfoldable pub node_in : ℕ → Tables → List ℕ → Option NodeWords → Step
node_in n t l None = num_in n t (num_line l)
node_in n t l (Some w) = node_step n t w

-- a line is a node's or a number's, else it is bad
unfoldable pub body_line : ℕ → Tables → List ℕ → Step
body_line n t l = node_in n t l (node_line l)

-- all lines are good, or the number of the first that is not
pub data Body : Type 0 where
  Wrong : ℕ → Body
  Right : Tables → Body

-- the lines from number k on; after the last all n nodes must be there, and the file whole
unfoldable pub rest : Bool → ℕ → ℕ → Tables → List (List ℕ) → Body
rest whole n k t [] = cond (whole && eqb t.count n) (Right t) (Wrong k)
rest whole n k t (l ∷ ls) = elim (body_line n t l) [ Stop ↦ Wrong k | Go u ↦ rest whole n (k + 1) u ls ]

-- n nodes have room, and count of them are written
pub record TablesFit (n count : ℕ) (ws : List ℕ) (xs : List Float) : Type 0 where
  pub few : n ≤ 512
  pub so_far : count ≤ n
  pub words_room : 4 * n ≤ length ws
  pub numbers_room : 28 * n ≤ length xs

-- what one line leaves: a count over n if it is bad
abbrev pub Stepped : ℕ → Step → Tables → ℕ → List ℕ → List Float → Type 0
Stepped n Stop t r ws xs = (n < r) × (ws ≡ t.words) × (xs ≡ t.numbers)
Stepped n (Go u) t r ws xs = (r ≤ n) × (u ≡ tables r ws xs) × (length ws ≡ length t.words) × (length xs ≡ length t.numbers)

-- the same of a count that is there if the line is good
abbrev pub Turned : ℕ → Step → Tables → Option ℕ → List ℕ → List Float → Type 0
Turned n z t r ws xs = MatchOption r (Stepped n z t (n + 1) ws xs) (λ k. (k ≤ n) × Stepped n z t k ws xs)

abbrev pub line_number : PageError → ℕ
line_number (BadLine k) = k

-- what all lines leave: 0, or the number of the first bad one
abbrev pub Ended : Body → List ℕ → List Float → ℕ → List ℕ → List Float → Type 0
Ended (Wrong k) ws₀ xs₀ r ws xs = (0 < r) × (r ≡ k) × (length ws ≡ length ws₀) × (length xs ≡ length xs₀)
Ended (Right t) ws₀ xs₀ r ws xs = (r ≡ 0) × (t.words ≡ ws) × (t.numbers ≡ xs)
