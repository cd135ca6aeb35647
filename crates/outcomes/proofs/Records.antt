-- The calls over records: what holds of the plain calls, with the records lent counted too.
use Rattle.steps.specs.declared.Refusal.{Refusal}
use Rattle.std.specs.Prelude.{◌≡◌, ℕ, length, ltb, Float, Result}
use Rattle.std.proofs.Common.{◌∙◌}
use mathlib.Core.List.{List, []}
use Rattle.steps.specs.Page.{page_of}
use Rattle.steps.specs.Candidates.{needed}
use Rattle.steps.specs.declared.LayoutInput.{LayoutInput}
use Rattle.tables.proofs.Exactly.{Exactly}
use Rattle.records.specs.Results.{layout_within, relayout_within, layout_records_result, relayout_records_result, with_records, RecordsReplied}
use Rattle.records.specs.declared.Record.{Record}
use Rattle.outcomes.specs.Layout.{LayoutGiven}
use Rattle.outcomes.proofs.LayoutLaws.{layout-answers}
use Rattle.outcomes.specs.Relayout.{RelayoutGiven}
use Rattle.outcomes.proofs.Relayout.{relayout-answers}
use Rattle.outcomes.specs.Records.{GivenIn, given-in, within_answer}

module _ (ws : List ℕ) (xs rs : List Float) (ms cw : List ℕ) (cx : List Float) (lent : List Record) (q : LayoutInput) (a : Result ℕ Refusal) (rs' : List Float) (ms' cw' : List ℕ) (cx' : List Float) (out : List Record)
    (call : RecordsReplied (layout_records_result ws xs rs ms cw cx lent q) a rs' ms' cw' cx' out) where
  -- all nine outcomes of a layout over records
  pub layout-records-gives : (b : Result ℕ Refusal) → Exactly (a ≡ b) (GivenIn (ltb (length lent) (needed (page_of ws xs []))) (LayoutGiven ws xs rs ms [] [] q) (LayoutGiven ws xs rs ms cw cx q) b)
  unfolding layout_records_result with_records layout_within
  layout-records-gives b =
      given-in a _ _ _ _ b (λ e. layout-answers ws xs rs ms [] [] q a e b) (λ e. layout-answers ws xs rs ms cw cx q a e b) (ltb (length lent) (needed (page_of ws xs [])))
      (call.plain_is.answer_is ∙ within_answer (length lent) (needed (page_of ws xs [])) _ _ rs ms cw cx)

module _ (ws : List ℕ) (xs rs : List Float) (ms cw : List ℕ) (cx : List Float) (lent : List Record) (es : List ℕ) (q : LayoutInput) (a : Result ℕ Refusal) (rs' : List Float) (ms' cw' : List ℕ) (cx' : List Float) (out : List Record)
    (call : RecordsReplied (relayout_records_result ws xs rs ms cw cx lent es q) a rs' ms' cw' cx' out) where
  -- all nine outcomes of a relayout over records
  pub relayout-records-gives : (b : Result ℕ Refusal) → Exactly (a ≡ b) (GivenIn (ltb (length lent) (needed (page_of ws xs []))) (RelayoutGiven ws xs rs ms [] [] es q) (RelayoutGiven ws xs rs ms cw cx es q) b)
  unfolding relayout_records_result with_records relayout_within
  relayout-records-gives b =
      given-in a _ _ _ _ b (λ e. relayout-answers ws xs rs ms [] [] es q a e b) (λ e. relayout-answers ws xs rs ms cw cx es q a e b) (ltb (length lent) (needed (page_of ws xs [])))
      (call.plain_is.answer_is ∙ within_answer (length lent) (needed (page_of ws xs [])) _ _ rs ms cw cx)
