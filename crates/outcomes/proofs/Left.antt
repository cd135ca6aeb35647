-- What an answer's number says of lent memory: 1 to 7 leave all as lent, 8 leaves rows zero and the candidates as they came, and there is no other number.
use Rattle.steps.specs.declared.Refusal.{Refusal}
use Rattle.tree.specs.declared.NodeId.{NodeId}
use Rattle.std.specs.Prelude.{◌≡◌, List, ℕ, ◌≤◌, Float, Option, None, Some, Result, Ok, Err, ⊤}
use Rattle.std.proofs.Math.Path.{refl}
use Rattle.std.proofs.Common.{arith}
use Rattle.tree.specs.Tree.{Tree}
use Rattle.steps.specs.Scan.{lowest}
use Rattle.steps.specs.Row.{Row}
use Rattle.steps.specs.Noes.{paper, refusal_paper, bad_row}
use Rattle.steps.specs.Results.{rows_out, accepted, over_limit, replied, tested}
use Rattle.tables.proofs.Exactly.{Exactly}
use Rattle.layout.specs.Public.{Replied}
use Rattle.outcomes.specs.Given.{Never}
use Rattle.outcomes.specs.Left.{LeftBy, LeavesR, refuse_seven}

module _ (rs : List Float) (ms cw : List ℕ) (cx : List Float) where
  over-leaves : (f : Option NodeId) (t : Tree Row) → LeavesR (over_limit f t rs ms cw cx) rs ms cw cx
  unfolding over_limit accepted paper refusal_paper
  over-leaves None t = record { at_most = omega arith; is_as_lent = λ l h. absurd (omega arith); zeroed = λ e. absurd (omega arith) }
  over-leaves (Some i) t = record { at_most = omega arith; is_as_lent = λ l h. absurd (omega arith); zeroed = λ e. record { rows = refl; marks = refl; words = refl; numbers = refl } }

  reply-leaves : (u : Result ⊤ Refusal) (n : ℕ) (t : Tree Row) → ((a : Refusal) → u ≡ Err a → (refusal_paper a).0 ≤ 7) → LeavesR (tested u (replied n t rs ms cw cx) rs ms cw cx) rs ms cw cx
  unfolding tested replied paper
  reply-leaves (Ok _) n t h = over-leaves (lowest (bad_row (rows_out t)) n) t
  reply-leaves (Err a) n t h =
      let k = h a refl in
      record { at_most = omega arith; is_as_lent = λ l g. record { rows = refl; marks = refl; words = refl; numbers = refl }; zeroed = λ e. absurd (omega arith) }

-- at exit of a call whose reply is that of these tests
pub seen_left : (u : Result ⊤ Refusal) (D : Result ⊤ Refusal → Type 0) → ((v : Result ⊤ Refusal) → Exactly (u ≡ v) (D v)) → Never D → (n : ℕ) (t : Tree Row) (rs : List Float) (ms cw : List ℕ) (cx : List Float) (a : Result ℕ Refusal) (rs' : List Float) (ms' cw' : List ℕ) (cx' : List Float)
    → Replied (tested u (replied n t rs ms cw cx) rs ms cw cx) a rs' ms' cw' cx' → LeftBy (paper a).0 rs rs' ms ms' cw cw' cx cx'
seen_left u D exact never n t rs ms cw cx a rs' ms' cw' cx' c =
    let h = reply-leaves rs ms cw cx u n t (λ b e. refuse_seven D never b ((exact (Err b)).only e)) in
    rw (c.answer_is, c.rows_are, c.marks_are, c.words_are, c.numbers_are) h
