-- Demand 3 at exit of every call that does it: plain, over records, from C; and chains that mix them.
use Rattle.steps.specs.declared.Refusal.{Refusal}
use Rattle.std.specs.Prelude.{◌≡◌, Bool, List, [], ℕ, length, ltb, Float, Result, Ok, Err, ⊤}
use Rattle.std.proofs.Math.Path.{sym, ap}
use Rattle.std.proofs.Common.{◌∙◌}
use Rattle.std.proofs.Math.Bool.{true, false}
use borrow.Author.Tests.{ltb-true, ltb-false}
use Rattle.steps.specs.Page.{page_of, cells_of}
use Rattle.steps.specs.Kept.{Laid}
use Rattle.steps.specs.Layout.{relaid, fresh}
use Rattle.steps.specs.Candidates.{candidates, needed}
use Rattle.steps.specs.Noes.{relayout_tested}
use Rattle.steps.specs.Results.{layout_result, relayout_result}
use Rattle.steps.specs.declared.LayoutInput.{LayoutInput}
use Rattle.laws.specs.Tables.{SameShape, Named}
use Rattle.laws.specs.Answers.{relayout_layout}
use Rattle.laws.proofs.Public.{tables-fresh, calls-fresh}
use Rattle.records.specs.Results.{layout_records_result, relayout_records_result, with_records}
use Rattle.records.specs.declared.Record.{Record}
use Rattle.records.proofs.EnoughOrFew.{layout-enough, relayout-enough, layout-few, relayout-few}
use Rattle.claims.specs.Discharged.{checks}
use Rattle.claims.specs.Claims.{relayout_is_layout}
use Rattle.claims.specs.Agreeing.{both_parts}
use Rattle.claims.specs.EveryCall.{Left, left_calls}

-- ---- a relayout of each kind ends as a layout of that kind
module _ (ws : List ℕ) (xs : List Float) (q : LayoutInput) (rs : List Float) (ms : List ℕ) (ws' : List ℕ) (xs' : List Float) (cw : List ℕ) (cx : List Float) (es : List ℕ) (p : LayoutInput) (left : Left ws xs q rs ms) (shape : SameShape ws ws')
    (named : Named es ws xs ws' xs') (pass : relayout_tested ws' xs' rs ms cw cx es p ≡ Ok tt) where
  pub same-result : relayout_result ws' xs' rs ms cw cx es p ≡ layout_result ws' xs' rs ms cw cx p
  same-result = relayout_is_layout ws xs q rs ms ws' xs' cw cx es p (left_calls ws xs q rs ms left) shape named pass

  same-laid : relaid (cells_of ws' xs' rs ms es) p ≡ fresh (page_of ws' xs' []) p
  same-laid =
      let o = calls-fresh checks ws xs q rs ms (left_calls ws xs q rs ms left) in
      let s = checks.sound ws' xs' rs ms cw cx p (relayout_layout ws' xs' rs ms cw cx es p pass) in
      tables-fresh ws xs ws' xs' rs ms es shape o.sound.some q p o.sound s named o.rows o.marks

  pub records-by : (lent : List Record) (v : Bool) → ltb (length lent) (needed (page_of ws' xs' [])) ≡ v → relayout_records_result ws' xs' rs ms cw cx lent es p ≡ layout_records_result ws' xs' rs ms cw cx lent p
  unfolding layout_records_result relayout_records_result with_records
  records-by lent true e =
      let l = ltb-true (length lent) (needed (page_of ws' xs' [])) e in
      let x = relayout-few ws' xs' rs ms cw cx lent es p l in
      let y = layout-few ws' xs' rs ms cw cx lent p l in
      let z : x.answer ≡ y.answer = refusal (sym x.first_due ∙ y.first_due) in
      x.is_as_lent ∙ ap (λ (a : Refusal). record { plain = record { answer = Err a; rows = rs; marks = ms; words = cw; numbers = cx }; records = lent }) z ∙ sym y.is_as_lent
    where
      refusal : {a b : Refusal} → ◌≡◌ {A = Result ⊤ Refusal} (Err a) (Err b) → a ≡ b
      refusal e = cc
  records-by lent false e =
      let h = ltb-false (length lent) (needed (page_of ws' xs' [])) e in
      let x = relayout-enough ws' xs' rs ms cw cx lent es p h ∙ same-result ∙ sym (layout-enough ws' xs' rs ms cw cx lent p h) in
      both_parts _ _ (ap (λ (l : Laid). candidates l.rows) same-laid) lent x
