-- The whole result of coarse, for any lent input.
use Rattle.steps.specs.declared.Refusal.{Refusal}
use Rattle.coarse.specs.declared.CoarseRefusal.TheVariants.{Plain, TooFar}
use Rattle.coarse.specs.declared.CoarseRefusal.{CoarseRefusal}
use Rattle.tree.specs.declared.NodeId.{NodeId}
use Rattle.std.specs.Prelude.{◌≡◌, Bool, not, ◌||◌, List, ℕ, ◌*◌, ℤ, length, eqb, Float, Option, None, Some, Result, Ok, Err, ⊤}
use Rattle.steps.specs.Scan.{lowest}
use Rattle.steps.specs.Page.{nodes_in}
use Rattle.steps.specs.Noes.{refusal_paper, bad_rows}
use Rattle.edges.specs.Edges.{edge_at}
use Rattle.edges.specs.Tests.{bad_words, laid_tested}
use Rattle.coarse.specs.Panel.{far_node, box_of, boxes_of}
use Rattle.coarse.specs.declared.PixelBox.{PixelBox}

-- this paper's number and place of each answer
unfoldable pub coarse_paper : Result ⊤ CoarseRefusal → ℕ × ℕ
coarse_paper (Ok _) = (0, 0)
coarse_paper (Err (Plain a)) = refusal_paper a
coarse_paper (Err (TooFar i)) = (12, i.0)

-- the answer, and the output
pub record Panel : Type 0 where
  pub answer : Result ⊤ CoarseRefusal
  pub out : List ℤ

-- 1: the output has not 4 numbers for each node
unfoldable pub bad_out : ℕ → ℕ → Bool
bad_out n out = not (eqb out (4 * n))

-- 1, whole
unfoldable pub coarse_misfit : List ℕ → List Float → List ℕ → ℕ → Bool
coarse_misfit ws rs ms out = bad_out (nodes_in ws) out || (bad_words ws || bad_rows ws rs ms)

-- 12: the lowest laid node with an edge too far from the page's corner
unfoldable pub by_edge : Option NodeId → Result ⊤ CoarseRefusal
by_edge None = Ok tt
by_edge (Some i) = Err (TooFar i)

abbrev pub far_at : List ℕ → List Float → List ℕ → ℕ → Bool
far_at ws rs ms i = far_node (edge_at ws rs) rs ms i

-- 1, 2, 3 and 7, then 12
unfoldable pub after_tests : Result ⊤ Refusal → Result ⊤ CoarseRefusal → Result ⊤ CoarseRefusal
after_tests (Ok _) a = a
after_tests (Err r) a = Err (Plain r)

unfoldable pub coarse_answer : List ℕ → List Float → List ℕ → ℕ → Result ⊤ CoarseRefusal
coarse_answer ws rs ms out = after_tests (laid_tested (coarse_misfit ws rs ms out) ws ms) (by_edge (lowest (far_at ws rs ms) (nodes_in ws)))

-- the box of node i, with the page's edges
abbrev pub box_at : List ℕ → List Float → List ℕ → ℕ → PixelBox
box_at ws rs ms i = box_of (edge_at ws rs) rs ms i

-- a refusal leaves the output as lent
unfoldable pub by_answer : Result ⊤ CoarseRefusal → List ℤ → List ℤ → Panel
by_answer (Ok _) new lent = record { answer = Ok tt; out = new }
by_answer (Err a) new lent = record { answer = Err a; out = lent }

-- coarse: words, rows, marks, and the lent output
unfoldable pub coarse_result : List ℕ → List Float → List ℕ → List ℤ → Panel
coarse_result ws rs ms lent = by_answer (coarse_answer ws rs ms (length lent)) (boxes_of (box_at ws rs ms) 0 (nodes_in ws)) lent

-- what the call promises: the answer, by its number and place too, and every number of the output are the definition's
pub record Coarsened (want : Panel) (answer : Result ⊤ CoarseRefusal) (out : List ℤ) : Type 0 where
  pub answer_is : answer ≡ want.answer
  pub paper_is : coarse_paper answer ≡ coarse_paper want.answer
  pub out_is : out ≡ want.out
