-- Demand 3, second half, at exit of every call that does it: two pages that differ only below kept nodes end alike.
use Rattle.steps.specs.declared.Refusal.{Refusal}
use Rattle.std.specs.Prelude.{◌≡◌, Bool, ℕ, ◌<◌, length, ltb, Float, Result, Ok, Err}
use Rattle.std.proofs.Math.Path.{sym, ap}
use Rattle.std.proofs.Common.{◌∙◌}
use Rattle.std.proofs.Math.Bool.{true, false}
use mathlib.Core.List.{List, []}
use borrow.Author.Tests.{ltb-true, ltb-false}
use Rattle.steps.specs.Page.{nodes_in, page_of}
use Rattle.steps.specs.Kept.{Laid}
use Rattle.steps.specs.Candidates.{candidates, needed}
use Rattle.steps.specs.Noes.{relayout_tested}
use Rattle.steps.specs.declared.LayoutInput.{LayoutInput}
use Rattle.laws.specs.Tables.{SameShape, Sound, AgreeAt, below_at}
use Rattle.laws.specs.Answers.{relayout_layout}
use Rattle.laws.proofs.Blind.{tables-same}
use Rattle.records.specs.Results.{relayout_records_result, with_records}
use Rattle.records.specs.declared.Record.{Record}
use Rattle.records.proofs.EnoughOrFew.{relayout-enough, relayout-few}
use Rattle.claims.specs.Discharged.{checks}
use Rattle.claims.specs.Claims.{relayouts_agree}
use Rattle.claims.specs.Agreeing.{same-needed, room_by, both_parts}

module _ (ws : List ℕ) (xs : List Float) (ws' : List ℕ) (xs' : List Float) (rs : List Float) (ms cw : List ℕ) (cx : List Float) (es : List ℕ) (q : LayoutInput) (shape : SameShape ws ws')
    (agree : (i : ℕ) → i < nodes_in ws → AgreeAt ws xs ws' xs' (below_at ws xs rs ms es q i) i) (pass : relayout_tested ws xs rs ms cw cx es q ≡ Ok tt) (pass' : relayout_tested ws' xs' rs ms cw cx es q ≡ Ok tt) where
  sound_here : Sound ws xs
  sound_here = checks.sound ws xs rs ms cw cx q (relayout_layout ws xs rs ms cw cx es q pass)

  same-needs : needed (page_of ws xs []) ≡ needed (page_of ws' xs' [])
  same-needs = same-needed ws xs ws' xs' shape sound_here.some (λ i p. ((agree i p).kind, (agree i p).position))

  pub records-alike : (lent : List Record) (v : Bool) → ltb (length lent) (needed (page_of ws xs [])) ≡ v → relayout_records_result ws xs rs ms cw cx lent es q ≡ relayout_records_result ws' xs' rs ms cw cx lent es q
  unfolding relayout_records_result with_records
  records-alike lent true e =
      let l = ltb-true (length lent) (needed (page_of ws xs [])) e in
      let x = relayout-few ws xs rs ms cw cx lent es q l in
      let y = relayout-few ws' xs' rs ms cw cx lent es q (rw same-needs at l) in
      let a = room_by ws xs rs ms cw cx lent q _ x (relayout_layout ws xs rs ms cw cx es q pass) in
      let b = room_by ws' xs' rs ms cw cx lent q _ y (relayout_layout ws' xs' rs ms cw cx es q pass') in
      x.is_as_lent ∙ ap (λ (c : Refusal). record { plain = record { answer = Err c; rows = rs; marks = ms; words = cw; numbers = cx }; records = lent }) (a ∙ sym b) ∙ sym y.is_as_lent
  records-alike lent false e =
      let h = ltb-false (length lent) (needed (page_of ws xs [])) e in
      let x = relayout-enough ws xs rs ms cw cx lent es q h ∙ relayouts_agree ws xs ws' xs' rs ms cw cx es q shape agree pass pass' ∙ sym (relayout-enough ws' xs' rs ms cw cx lent es q (rw same-needs at h)) in
      both_parts _ _ (ap (λ (l : Laid). candidates l.rows) (tables-same ws xs ws' xs' rs ms es q sound_here shape agree)) lent x
