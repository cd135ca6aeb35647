-- Demand 3 at exit of every call that does it: plain, over records, from C; and chains that mix them.
use Rattle.steps.specs.declared.Refusal.{Refusal}
use Rattle.std.specs.Prelude.{◌≡◌, refl, List, ℕ, Float, Result, Ok}
use Rattle.std.proofs.Math.Path.{sym, ap}
use Rattle.std.proofs.Common.{◌∙◌, subst}
use Rattle.steps.specs.Noes.{relayout_tested}
use Rattle.steps.specs.Results.{Reply, layout_result, relayout_result}
use Rattle.steps.specs.declared.LayoutInput.{LayoutInput}
use Rattle.laws.specs.Tables.{SameShape, Named}
use Rattle.layout.specs.Public.{Replied}
use Rattle.asked.specs.Halves.{one_word}
use Rattle.face.specs.Answered.{Answered}
use Rattle.records.specs.Results.{RecordsReply, layout_records_result, relayout_records_result, RecordsReplied}
use Rattle.records.specs.declared.Record.{Record}
use Rattle.claims.specs.AtExit.{Alike, one_reply}
use Rattle.claims.specs.EveryCall.{Left}
use Rattle.claims.proofs.EndsAlike.{same-result, records-by}

module _ (ws : List ℕ) (xs : List Float) (q : LayoutInput) (rs : List Float) (ms : List ℕ) (ws' : List ℕ) (xs' : List Float) (cw : List ℕ) (cx : List Float) (es : List ℕ) (p : LayoutInput) (left : Left ws xs q rs ms) (shape : SameShape ws ws')
    (named : Named es ws xs ws' xs') (pass : relayout_tested ws' xs' rs ms cw cx es p ≡ Ok tt) where
  pub relayout-ends-so : (a b : Result ℕ Refusal) (r1 r2 : List Float) (m1 m2 w1 w2 : List ℕ) (x1 x2 : List Float) → Replied (relayout_result ws' xs' rs ms cw cx es p) a r1 m1 w1 x1 → Replied (layout_result ws' xs' rs ms cw cx p) b r2 m2 w2 x2 → Alike a b r1 r2 m1 m2 w1 w2 x1 x2
  relayout-ends-so a b r1 r2 m1 m2 w1 w2 x1 x2 x y = one_reply _ _ a b r1 r2 m1 m2 w1 w2 x1 x2 (same-result ws xs q rs ms ws' xs' cw cx es p left shape named pass) x y

  -- from C: one word, and the same memory
  pub c-relayout-ends-so : (r s : ℕ) (r1 r2 : List Float) (m1 m2 w1 w2 : List ℕ) (x1 x2 : List Float) → Answered (relayout_result ws' xs' rs ms cw cx es p) r r1 m1 w1 x1 → Answered (layout_result ws' xs' rs ms cw cx p) s r2 m2 w2 x2
      → (r ≡ s) × (r1 ≡ r2) × (m1 ≡ m2) × (w1 ≡ w2) × (x1 ≡ x2)
  c-relayout-ends-so r s r1 r2 m1 m2 w1 w2 x1 x2 x y =
      let z = subst (λ (v : Reply). Answered v r r1 m1 w1 x1) (same-result ws xs q rs ms ws' xs' cw cx es p left shape named pass) x in
      (one_word _ r s z.answer_is y.answer_is, z.rows_are ∙ sym y.rows_are, z.marks_are ∙ sym y.marks_are, z.pairs_are ∙ sym y.pairs_are, z.triples_are ∙ sym y.triples_are)

  -- over records
  pub records-relayout-ends-so : (lent : List Record) (a b : Result ℕ Refusal) (r1 r2 : List Float) (m1 m2 w1 w2 : List ℕ) (x1 x2 : List Float) (o1 o2 : List Record) → RecordsReplied (relayout_records_result ws' xs' rs ms cw cx lent es p) a r1 m1 w1 x1 o1
      → RecordsReplied (layout_records_result ws' xs' rs ms cw cx lent p) b r2 m2 w2 x2 o2 → Alike a b r1 r2 m1 m2 w1 w2 x1 x2 × (o1 ≡ o2)
  records-relayout-ends-so lent a b r1 r2 m1 m2 w1 w2 x1 x2 o1 o2 x y =
      let e = records-by ws xs q rs ms ws' xs' cw cx es p left shape named pass lent _ refl in
      (one_reply _ _ a b r1 r2 m1 m2 w1 w2 x1 x2 (ap (λ (v : RecordsReply). v.plain) e) x.plain_is y.plain_is, x.records_are ∙ ap (λ (v : RecordsReply). v.records) e ∙ sym y.records_are)
