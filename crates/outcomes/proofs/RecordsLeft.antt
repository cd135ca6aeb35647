-- The calls over records, by the answer's number alone: 1 to 7 leave all as lent, 8 leaves rows zero and candidates and records as they came, and there is no other number.
use Rattle.steps.specs.declared.Refusal.TheVariants.{TooLarge}
use Rattle.steps.specs.declared.Refusal.{Refusal}
use Rattle.std.specs.Prelude.{◌≡◌, Bool, cond, List, [], ℕ, ◌<◌, ◌≤◌, length, Float, Result}
use Rattle.std.proofs.Math.Path.{refl}
use Rattle.std.proofs.Math.Bool.{true, false}
use Rattle.std.proofs.Common.{arith, ltb-true, Err}
use Rattle.std.proofs.Math.Dec.{ltb}
use Rattle.steps.specs.Page.{page_of}
use Rattle.steps.specs.Candidates.{Candidate, needed}
use Rattle.steps.specs.Noes.{paper}
use Rattle.steps.specs.Results.{Reply, layout_result, relayout_result}
use Rattle.steps.specs.declared.LayoutInput.{LayoutInput}
use Rattle.records.specs.Results.{as_lent, within, layout_within, relayout_within, layout_records_result, relayout_records_result, with_records, RecordsReplied}
use Rattle.records.specs.declared.Record.{Record}
use Rattle.outcomes.specs.Left.{LeftBy, LeavesR}
use Rattle.outcomes.proofs.LayoutLaws.{layout-answers, layout-leaves}
use Rattle.outcomes.proofs.Relayout.{relayout-answers, relayout-leaves}
use Rattle.outcomes.specs.Records.{records_as_lent}
use Rattle.outcomes.specs.RecordsLeft.{RecordsLeftBy, not_eight, itself}

module _ (rs : List Float) (ms cw : List ℕ) (cx : List Float) where
  lent-left : (a : Result ℕ Refusal) → (paper a).0 ≤ 7 → LeavesR (as_lent a rs ms cw cx) rs ms cw cx
  lent-left a h =
      record { at_most = omega (arith, h); is_as_lent = λ l g. record { rows = refl; marks = refl; words = refl; numbers = refl }; zeroed = λ e. absurd (omega (arith, h, e)) }

  -- too few records: no 8, so all is as lent
  within-left : (k need : ℕ) (few : Result ℕ Refusal) (r : Reply) → (k < need → (paper few).0 ≤ 7) → LeavesR r rs ms cw cx → LeavesR (within k need few r rs ms cw cx) rs ms cw cx
  unfolding within
  within-left k need few r h g = go (ltb k need) refl
    where
      go : (v : Bool) → ltb k need ≡ v → LeavesR (cond v (as_lent few rs ms cw cx) r) rs ms cw cx
      go true e = lent-left few (h (ltb-true k need e))
      go false e = g

  with-left : (r : Reply) (l : List Candidate) (lent : List Record) (a : Result ℕ Refusal) (rs' : List Float) (ms' cw' : List ℕ) (cx' : List Float) (out : List Record) → LeavesR r rs ms cw cx → RecordsReplied (with_records r l lent) a rs' ms' cw' cx' out
      → RecordsLeftBy (paper a).0 rs rs' ms ms' cw cw' cx cx' lent out
  unfolding with_records
  with-left r l lent a rs' ms' cw' cx' out g call =
      let c = call.plain_is in
      let h : LeftBy (paper a).0 rs rs' ms ms' cw cw' cx cx' = rw (c.answer_is, c.rows_are, c.marks_are, c.words_are, c.numbers_are) g in
      let s = records_as_lent r l lent out a rs' ms' cw' cx' call in
      record { at_most = h.at_most; is_as_lent = λ l g. (h.is_as_lent l g, s l); zeroed = λ e. (h.zeroed e, s (omega (arith, e))) }

module _ (ws : List ℕ) (xs rs : List Float) (ms cw : List ℕ) (cx : List Float) (lent : List Record) (q : LayoutInput) (a : Result ℕ Refusal) (rs' : List Float) (ms' cw' : List ℕ) (cx' : List Float) (out : List Record)
    (call : RecordsReplied (layout_records_result ws xs rs ms cw cx lent q) a rs' ms' cw' cx' out) where
  few-layout : length lent < needed (page_of ws xs []) → (paper (layout_result ws xs rs ms [] [] q).answer).0 ≤ 7
  few-layout l =
      not_eight _
      (λ i e.
      let h = ((layout-answers ws xs rs ms [] [] q _ refl (Err (TooLarge i))).only e).0.room in
      omega (arith, l, h))

  pub layout-records-leaves : RecordsLeftBy (paper a).0 rs rs' ms ms' cw cw' cx cx' lent out
  unfolding layout_records_result layout_within
  layout-records-leaves = with-left rs ms cw cx _ _ lent a rs' ms' cw' cx' out (within-left rs ms cw cx (length lent) _ _ _ few-layout (layout-leaves ws xs rs ms cw cx q _ _ _ _ _ (itself _))) call

module _ (ws : List ℕ) (xs rs : List Float) (ms cw : List ℕ) (cx : List Float) (lent : List Record) (es : List ℕ) (q : LayoutInput) (a : Result ℕ Refusal) (rs' : List Float) (ms' cw' : List ℕ) (cx' : List Float) (out : List Record)
    (call : RecordsReplied (relayout_records_result ws xs rs ms cw cx lent es q) a rs' ms' cw' cx' out) where
  few-relayout : length lent < needed (page_of ws xs []) → (paper (relayout_result ws xs rs ms [] [] es q).answer).0 ≤ 7
  few-relayout l =
      not_eight _
      (λ i e.
      let h = ((relayout-answers ws xs rs ms [] [] es q _ refl (Err (TooLarge i))).only e).0.0.room in
      omega (arith, l, h))

  pub relayout-records-leaves : RecordsLeftBy (paper a).0 rs rs' ms ms' cw cw' cx cx' lent out
  unfolding relayout_records_result relayout_within
  relayout-records-leaves = with-left rs ms cw cx _ _ lent a rs' ms' cw' cx' out (within-left rs ms cw cx (length lent) _ _ _ few-relayout (relayout-leaves ws xs rs ms cw cx es q _ _ _ _ _ (itself _))) call
