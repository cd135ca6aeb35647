-- The calls over records, by the answer's number alone: 1 to 7 leave all as lent, 8 leaves rows zero and candidates and records as they came, and there is no other number.
use Rattle.steps.specs.declared.Refusal.TheVariants.{Lengths, Tree, Codes, Numbers, Room, Edits, NotLaid, TooLarge}
use Rattle.steps.specs.declared.Refusal.{Refusal}
use Rattle.std.specs.Prelude.{◌≡◌, List, ℕ, ◌≤◌, Float, Result, Ok}
use Rattle.std.proofs.Math.Path.{refl}
use Rattle.std.proofs.Common.{arith, Err}
use Rattle.tree.specs.declared.NodeId.{NodeId}
use Rattle.steps.specs.Noes.{paper, refusal_paper}
use Rattle.steps.specs.Results.{Reply}
use Rattle.layout.specs.Public.{Replied}
use Rattle.records.specs.declared.Record.{Record}
use Rattle.outcomes.specs.Left.{AsLent, Zeroed}

-- by the answer's number alone; lent and out are the records before and after
pub record RecordsLeftBy (number : ℕ) (rs rs' : List Float) (ms ms' cw cw' : List ℕ) (cx cx' : List Float) (lent out : List Record) : Type 0 where
  pub at_most : number ≤ 8
  pub is_as_lent : 1 ≤ number → number ≤ 7 → AsLent rs rs' ms ms' cw cw' cx cx' × (out ≡ lent)
  pub zeroed : number ≡ 8 → Zeroed rs rs' ms ms' cw cw' cx cx' × (out ≡ lent)

-- what is not 8 is 7 at most
pub not_eight : (a : Result ℕ Refusal) → ((i : NodeId) → a ≡ Err (TooLarge i) → ⊥) → (paper a).0 ≤ 7
unfolding paper refusal_paper
not_eight (Ok k) h = omega arith
not_eight (Err Lengths) h = omega arith
not_eight (Err (Tree i)) h = omega arith
not_eight (Err (Codes i)) h = omega arith
not_eight (Err (Numbers k)) h = omega arith
not_eight (Err Room) h = omega arith
not_eight (Err (Edits k)) h = omega arith
not_eight (Err NotLaid) h = omega arith
not_eight (Err (TooLarge i)) h = absurd (h i refl)

pub itself : (r : Reply) → Replied r r.answer r.rows r.marks r.words r.numbers
itself r = record { answer_is = refl; paper_is = refl; rows_are = refl; marks_are = refl; words_are = refl; numbers_are = refl }
