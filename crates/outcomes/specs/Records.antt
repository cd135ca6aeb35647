-- The calls over records: what holds of the plain calls, with the records lent counted too.
use Rattle.steps.specs.declared.Refusal.{Refusal}
use Rattle.std.specs.Prelude.{◌≡◌, refl, Bool, true, false, cond, ℕ, ◌≤◌, length, drop, eqb, ltb, Float, Result, Ok, Err}
use Rattle.std.proofs.Common.{◌∙◌, arith, eqb-true}
use mathlib.Core.List.{List, [], ◌++◌, map}
use Rattle.steps.specs.Candidates.{Candidate}
use Rattle.steps.specs.Noes.{paper}
use Rattle.steps.specs.Results.{Reply, on_front}
use Rattle.tables.proofs.Exactly.{Exactly}
use Rattle.records.specs.Records.{record_of, given_with}
use Rattle.records.specs.Results.{within, with_records, RecordsReplied}
use Rattle.records.specs.declared.Record.{Record}

-- what a plain call is given for, with the room that counts: none where fewer records are lent than needed
abbrev pub GivenIn : Bool → (Result ℕ Refusal → Type 0) → (Result ℕ Refusal → Type 0) → Result ℕ Refusal → Type 0
GivenIn true few enough b = few b
GivenIn false few enough b = enough b

abbrev pub answer_in : Bool → Result ℕ Refusal → Result ℕ Refusal → Result ℕ Refusal
answer_in b few enough = cond b few enough

module _ (a few enough : Result ℕ Refusal) (F E : Result ℕ Refusal → Type 0) (b : Result ℕ Refusal) (exactF : a ≡ few → Exactly (a ≡ b) (F b)) (exactE : a ≡ enough → Exactly (a ≡ b) (E b)) where
  pub given-in : (v : Bool) → a ≡ answer_in v few enough → Exactly (a ≡ b) (GivenIn v F E b)
  given-in true e = exactF e
  given-in false e = exactE e

pub within_answer : (k need : ℕ) (few : Result ℕ Refusal) (r : Reply) (rs : List Float) (ms cw : List ℕ) (cx : List Float) → (within k need few r rs ms cw cx).answer ≡ answer_in (ltb k need) few r.answer
unfolding within
within_answer k need few r rs ms cw cx = go (ltb k need)
  where
    go : (v : Bool) → (cond v (record { answer = few; rows = rs; marks = ms; words = cw; numbers = cx }) r).answer ≡ answer_in v few r.answer
    go true = refl
    go false = refl

-- a refusal leaves the records as lent
records_stay : (a : Result ℕ Refusal) (l lent : List Record) → 1 ≤ (paper a).0 → on_front (given_with a l) lent ≡ lent
unfolding on_front given_with paper
records_stay (Ok n) l lent h = absurd (omega arith)
records_stay (Err a) l lent h = refl

-- at exit of a call over records, by the answer's number alone
pub records_as_lent : (r : Reply) (l : List Candidate) (lent out : List Record) (a : Result ℕ Refusal) (rs' : List Float) (ms' cw' : List ℕ) (cx' : List Float) → RecordsReplied (with_records r l lent) a rs' ms' cw' cx' out → 1 ≤ (paper a).0 → out ≡ lent
unfolding with_records
records_as_lent r l lent out a rs' ms' cw' cx' call h = call.records_are ∙ records_stay r.answer (map record_of l) lent (rw call.plain_is.answer_is at h)
