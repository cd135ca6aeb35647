-- The whole result of each public call, for any lent input: answer and every word of lent memory.
use Rattle.steps.specs.declared.Refusal.TheVariants.{TooLarge}
use Rattle.steps.specs.declared.Refusal.{Refusal}
use Rattle.tree.specs.declared.NodeId.{NodeId}
use Rattle.std.specs.Prelude.{Bool, true, false, cond, ◌||◌, List, [], ◌∷◌, ◌++◌, map, ℕ, zero, suc, ◌+◌, ◌*◌, ◌/◌, length, drop, replicate, Float, Option, None, Some, Result, Ok, Err, ⊤}
use Rattle.geometry.specs.Geometry.{zero_f}
use Rattle.geometry.specs.declared.Size.{Size}
use Rattle.limits.specs.Limits.{too_large}
use Rattle.tree.specs.Tree.{Tree, flat_t}
use Rattle.steps.specs.Scan.{lowest}
use Rattle.steps.specs.Row.{Row, row_numbers, row_words}
use Rattle.steps.specs.Page.{nodes_in, page_of, cells_of}
use Rattle.steps.specs.Kept.{Laid}
use Rattle.steps.specs.Layout.{relaid, fresh}
use Rattle.steps.specs.Candidates.{Candidate, candidates, candidate_words, candidate_numbers}
use Rattle.steps.specs.SizeQuestion.{axes, size_of}
use Rattle.steps.specs.Noes.{refusal_paper, bad_row, layout_tested, relayout_tested, size_tested}
use Rattle.steps.specs.declared.LayoutInput.{LayoutInput}
use Rattle.steps.specs.declared.RequestedAxis.{RequestedAxis}

-- the answer, the rows' numbers and words, the candidates' words and numbers
pub record Reply : Type 0 where
  pub answer : Result ℕ Refusal
  pub rows : List Float
  pub marks : List ℕ
  pub words : List ℕ
  pub numbers : List Float

-- the finished rows as lists
unfoldable pub rows_out : Tree Row → List Float
rows_out t = flat_t (λ _ r. row_numbers r) t

unfoldable pub marks_out : Tree Row → List ℕ
marks_out t = flat_t (λ _ r. row_words r) t

-- the list's words and numbers
unfoldable pub listed : {A B : Type 0} → (A → List B) → List A → List B
listed f [] = []
listed f (a ∷ l) = f a ++ listed f l

-- records at the front of lent memory; what is past them is untouched
unfoldable pub on_front : {B : Type 0} → List B → List B → List B
on_front l lent = l ++ drop (length l) lent

-- accepted: 0 and the count
unfoldable pub accepted : Tree Row → List ℕ → List Float → Reply
accepted t cw cx =
    record {
      answer = Ok (length (candidates t));
      rows = rows_out t;
      marks = marks_out t;
      words = on_front (listed candidate_words (candidates t)) cw;
      numbers = on_front (listed candidate_numbers (candidates t)) cx;
    }

-- 8 leaves the rows zero and the candidates as they came
unfoldable pub over_limit : Option NodeId → Tree Row → List Float → List ℕ → List ℕ → List Float → Reply
over_limit None t rs ms cw cx = accepted t cw cx
over_limit (Some i) t rs ms cw cx =
    record { answer = Err (TooLarge i); rows = replicate (length rs) zero_f; marks = replicate (length ms) 0; words = cw; numbers = cx }

unfoldable pub replied : ℕ → Tree Row → List Float → List ℕ → List ℕ → List Float → Reply
replied n t rs ms cw cx = over_limit (lowest (bad_row (rows_out t)) n) t rs ms cw cx

-- 1 to 7 leave all as lent
unfoldable pub tested : Result ⊤ Refusal → Reply → List Float → List ℕ → List ℕ → List Float → Reply
tested (Ok _) r rs ms cw cx = r
tested (Err a) r rs ms cw cx = record { answer = Err a; rows = rs; marks = ms; words = cw; numbers = cx }

-- layout: node words and numbers, lent rows and marks, lent candidate words and numbers, the question
unfoldable pub layout_result : List ℕ → List Float → List Float → List ℕ → List ℕ → List Float → LayoutInput → Reply
layout_result ws xs rs ms cw cx q =
    tested (layout_tested ws xs rs ms cw cx q) (replied (nodes_in ws) (fresh (page_of ws xs []) q).rows rs ms cw cx) rs ms cw cx

-- relayout: the same with the edit list, from the rows as lent
unfoldable pub relayout_result : List ℕ → List Float → List Float → List ℕ → List ℕ → List Float → List ℕ → LayoutInput → Reply
relayout_result ws xs rs ms cw cx es q =
    tested (relayout_tested ws xs rs ms cw cx es q) (replied (nodes_in ws) (relaid (cells_of ws xs rs ms es) q).rows rs ms cw cx) rs ms cw cx

-- 8 tests only the answer, at place 0
unfoldable pub size_reply : Size Float → Result (Size Float) Refusal
size_reply s = cond (too_large s.width || too_large s.height) (Err (TooLarge (record { 0 = 0 }))) (Ok s)

unfoldable pub size_by_test : Result ⊤ Refusal → Result (Size Float) Refusal → Result (Size Float) Refusal
size_by_test (Ok _) r = r
size_by_test (Err a) r = Err a

-- size question: node words and numbers, the question, and which axes
unfoldable pub size_result : List ℕ → List Float → LayoutInput → RequestedAxis → Result (Size Float) Refusal
size_result ws xs q a = size_by_test (size_tested ws xs q) (size_reply (size_of (page_of ws xs []) q a))

-- this paper's number and place of a size answer, and its size, 0x0 if refused
unfoldable pub size_paper : Result (Size Float) Refusal → (ℕ × ℕ) × Size Float
size_paper (Ok s) = ((0, 0), s)
size_paper (Err a) = (refusal_paper a, axes zero_f zero_f)
