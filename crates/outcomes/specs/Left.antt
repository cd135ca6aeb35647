-- What an answer's number says of lent memory: 1 to 7 leave all as lent, 8 leaves rows zero and the candidates as they came, and there is no other number.
use Rattle.steps.specs.declared.Refusal.TheVariants.{Lengths, Tree, Codes, Numbers, Room, Edits, NotLaid, TooLarge}
use Rattle.steps.specs.declared.Refusal.{Refusal}
use Rattle.std.specs.Prelude.{◌≡◌, List, ℕ, ◌≤◌, length, replicate, Float, Result, Ok, Err, ⊤}
use Rattle.std.proofs.Common.{arith}
use Rattle.geometry.specs.Geometry.{zero_f}
use Rattle.steps.specs.Noes.{paper, refusal_paper}
use Rattle.steps.specs.Results.{Reply}
use Rattle.outcomes.specs.Given.{Never}

-- all as lent
pub record AsLent (rs rs' : List Float) (ms ms' cw cw' : List ℕ) (cx cx' : List Float) : Type 0 where
  pub rows : rs' ≡ rs
  pub marks : ms' ≡ ms
  pub words : cw' ≡ cw
  pub numbers : cx' ≡ cx

-- rows and marks zero, candidates as they came
pub record Zeroed (rs rs' : List Float) (ms ms' cw cw' : List ℕ) (cx cx' : List Float) : Type 0 where
  pub rows : rs' ≡ replicate (length rs) zero_f
  pub marks : ms' ≡ replicate (length ms) 0
  pub words : cw' ≡ cw
  pub numbers : cx' ≡ cx

-- by the answer's number alone
pub record LeftBy (number : ℕ) (rs rs' : List Float) (ms ms' cw cw' : List ℕ) (cx cx' : List Float) : Type 0 where
  pub at_most : number ≤ 8
  pub is_as_lent : 1 ≤ number → number ≤ 7 → AsLent rs rs' ms ms' cw cw' cx cx'
  pub zeroed : number ≡ 8 → Zeroed rs rs' ms ms' cw cw' cx cx'

-- the same of a reply
abbrev pub LeavesR : Reply → List Float → List ℕ → List ℕ → List Float → Type 0
LeavesR r rs ms cw cx = LeftBy (paper r.answer).0 rs r.rows ms r.marks cw r.words cx r.numbers

-- tests that never refuse with 8 refuse with 7 at most
pub refuse_seven : (D : Result ⊤ Refusal → Type 0) → Never D → (a : Refusal) → D (Err a) → (refusal_paper a).0 ≤ 7
unfolding refusal_paper
refuse_seven D never Lengths d = omega arith
refuse_seven D never (Tree i) d = omega arith
refuse_seven D never (Codes i) d = omega arith
refuse_seven D never (Numbers k) d = omega arith
refuse_seven D never Room d = omega arith
refuse_seven D never (Edits k) d = omega arith
refuse_seven D never NotLaid d = omega arith
refuse_seven D never (TooLarge i) d = absurd (never.large i d)
