-- The whole result of make_index, for any lent input.
use Rattle.steps.specs.declared.Refusal.{Refusal}
use Rattle.index.specs.declared.IndexRefusal.TheVariants.{Plain, BadEntry}
use Rattle.index.specs.declared.IndexRefusal.{IndexRefusal}
use Rattle.std.specs.Prelude.{◌≡◌, Bool, cond, not, ◌||◌, List, map, ℕ, min, length, eqb, ltb, Float, Option, None, Some, Result, Ok, Err, ⊤}
use Rattle.geometry.specs.Floats.{◌⊕◌}
use Rattle.steps.specs.Scan.{first_of}
use Rattle.steps.specs.Noes.{refusal_paper, bad_rows}
use Rattle.edges.specs.Edges.{row_number, edge_at}
use Rattle.edges.specs.Tests.{bad_words, laid_tested}
use Rattle.scroll.specs.Running.{running_of}
use Rattle.index.specs.Entries.{bad_entry}

-- this paper's number and place of each answer
unfoldable pub index_paper : Result ⊤ IndexRefusal → ℕ × ℕ
index_paper (Ok _) = (0, 0)
index_paper (Err (Plain a)) = refusal_paper a
index_paper (Err (BadEntry k)) = (9, k)

-- the answer, and the three slices of the index
pub record Index : Type 0 where
  pub answer : Result ⊤ IndexRefusal
  pub tops : List Float
  pub bottoms : List Float
  pub running : List Float

-- the edges of node i on the page: top, and top plus height
unfoldable pub top_at : List ℕ → List Float → ℕ → Float
top_at ws rs i = edge_at ws rs 1 i

unfoldable pub bottom_at : List ℕ → List Float → ℕ → Float
bottom_at ws rs i = top_at ws rs i ⊕ row_number rs i 3

-- the bottoms of the listed leaves
abbrev pub bottoms_of : List ℕ → List Float → List ℕ → List Float
bottoms_of ws rs list = map (bottom_at ws rs) list

-- the index of these leaves
unfoldable pub index_of : List ℕ → List Float → List ℕ → Index
index_of ws rs list = record { answer = Ok tt; tops = map (top_at ws rs) list; bottoms = bottoms_of ws rs list; running = running_of (bottoms_of ws rs list) }

-- 1: a slice of the index that is not as long as the list
unfoldable pub uneven : ℕ → ℕ → ℕ → ℕ → Bool
uneven n tops bottoms running = not (eqb tops n) || (not (eqb bottoms n) || not (eqb running n))

-- 1, whole
unfoldable pub index_misfit : List ℕ → List Float → List ℕ → ℕ → ℕ → ℕ → ℕ → Bool
index_misfit ws rs ms n tops bottoms running = uneven n tops bottoms running || (bad_words ws || bad_rows ws rs ms)

-- 9: the first bad index among the first 256, else 256
unfoldable pub by_entry : Option ℕ → Result ⊤ IndexRefusal → Result ⊤ IndexRefusal
by_entry None a = a
by_entry (Some k) a = Err (BadEntry k)

unfoldable pub list_answer : List ℕ → List ℕ → List ℕ → Result ⊤ IndexRefusal
list_answer ws ms list = by_entry (first_of (bad_entry ws ms list) (min 256 (length list))) (cond (ltb 256 (length list)) (Err (BadEntry 256)) (Ok tt))

-- 1, 2, 3 and 7, then 9
unfoldable pub after_tests : Result ⊤ Refusal → Result ⊤ IndexRefusal → Result ⊤ IndexRefusal
after_tests (Ok _) a = a
after_tests (Err r) a = Err (Plain r)

unfoldable pub index_answer : List ℕ → List Float → List ℕ → List ℕ → ℕ → ℕ → ℕ → Result ⊤ IndexRefusal
index_answer ws rs ms list tops bottoms running = after_tests (laid_tested (index_misfit ws rs ms (length list) tops bottoms running) ws ms) (list_answer ws ms list)

-- a refusal leaves the index as lent
unfoldable pub by_answer : Result ⊤ IndexRefusal → Index → List Float → List Float → List Float → Index
by_answer (Ok _) new ts bs ls = new
by_answer (Err a) new ts bs ls = record { answer = Err a; tops = ts; bottoms = bs; running = ls }

-- make_index: words, rows, marks, the list, and the three lent slices
unfoldable pub index_result : List ℕ → List Float → List ℕ → List ℕ → List Float → List Float → List Float → Index
index_result ws rs ms list ts bs ls = by_answer (index_answer ws rs ms list (length ts) (length bs) (length ls)) (index_of ws rs list) ts bs ls

-- what the call promises: the answer, by its number and place too, and every lent word are the definition's
pub record Indexed (want : Index) (answer : Result ⊤ IndexRefusal) (ts bs ls : List Float) : Type 0 where
  pub answer_is : answer ≡ want.answer
  pub paper_is : index_paper answer ≡ index_paper want.answer
  pub tops_are : ts ≡ want.tops
  pub bottoms_are : bs ≡ want.bottoms
  pub running_is : ls ≡ want.running
