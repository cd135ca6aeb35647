-- Demand 3, second half, at exit of every call that does it: two pages that differ only below kept nodes end alike.
use Rattle.steps.specs.declared.Refusal.{Refusal}
use Rattle.std.specs.Prelude.{◌≡◌, refl, ℕ, ◌<◌, Float, Result, Ok}
use Rattle.std.proofs.Math.Path.{sym, ap}
use Rattle.std.proofs.Common.{◌∙◌, subst}
use mathlib.Core.List.{List}
use Rattle.steps.specs.Page.{nodes_in}
use Rattle.steps.specs.Noes.{relayout_tested}
use Rattle.steps.specs.Results.{Reply, relayout_result}
use Rattle.steps.specs.declared.LayoutInput.{LayoutInput}
use Rattle.laws.specs.Tables.{SameShape, AgreeAt, below_at}
use Rattle.asked.specs.Halves.{one_word}
use Rattle.face.specs.Answered.{Answered}
use Rattle.records.specs.Results.{RecordsReply, relayout_records_result, RecordsReplied}
use Rattle.records.specs.declared.Record.{Record}
use Rattle.claims.specs.Claims.{relayouts_agree}
use Rattle.claims.specs.AtExit.{Alike, one_reply}
use Rattle.claims.proofs.AgreeAlike.{records-alike}

module _ (ws : List ℕ) (xs : List Float) (ws' : List ℕ) (xs' : List Float) (rs : List Float) (ms cw : List ℕ) (cx : List Float) (es : List ℕ) (q : LayoutInput) (shape : SameShape ws ws')
    (agree : (i : ℕ) → i < nodes_in ws → AgreeAt ws xs ws' xs' (below_at ws xs rs ms es q i) i) (pass : relayout_tested ws xs rs ms cw cx es q ≡ Ok tt) (pass' : relayout_tested ws' xs' rs ms cw cx es q ≡ Ok tt) where
  -- from C: one word, and the same memory
  pub c-relayouts-end-alike : (r s : ℕ) (r1 r2 : List Float) (m1 m2 w1 w2 : List ℕ) (x1 x2 : List Float) → Answered (relayout_result ws xs rs ms cw cx es q) r r1 m1 w1 x1 → Answered (relayout_result ws' xs' rs ms cw cx es q) s r2 m2 w2 x2
      → (r ≡ s) × (r1 ≡ r2) × (m1 ≡ m2) × (w1 ≡ w2) × (x1 ≡ x2)
  c-relayouts-end-alike r s r1 r2 m1 m2 w1 w2 x1 x2 x y =
      let z = subst (λ (v : Reply). Answered v r r1 m1 w1 x1) (relayouts_agree ws xs ws' xs' rs ms cw cx es q shape agree pass pass') x in
      (one_word _ r s z.answer_is y.answer_is, z.rows_are ∙ sym y.rows_are, z.marks_are ∙ sym y.marks_are, z.pairs_are ∙ sym y.pairs_are, z.triples_are ∙ sym y.triples_are)

  -- over records
  pub records-relayouts-end-alike : (lent : List Record) (a b : Result ℕ Refusal) (r1 r2 : List Float) (m1 m2 w1 w2 : List ℕ) (x1 x2 : List Float) (o1 o2 : List Record) → RecordsReplied (relayout_records_result ws xs rs ms cw cx lent es q) a r1 m1 w1 x1 o1
      → RecordsReplied (relayout_records_result ws' xs' rs ms cw cx lent es q) b r2 m2 w2 x2 o2 → Alike a b r1 r2 m1 m2 w1 w2 x1 x2 × (o1 ≡ o2)
  records-relayouts-end-alike lent a b r1 r2 m1 m2 w1 w2 x1 x2 o1 o2 x y =
      let e = records-alike ws xs ws' xs' rs ms cw cx es q shape agree pass pass' lent _ refl in
      (one_reply _ _ a b r1 r2 m1 m2 w1 w2 x1 x2 (ap (λ (v : RecordsReply). v.plain) e) x.plain_is y.plain_is, x.records_are ∙ ap (λ (v : RecordsReply). v.records) e ∙ sym y.records_are)
