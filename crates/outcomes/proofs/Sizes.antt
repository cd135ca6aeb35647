-- A size question: each of its answers exactly if it is due.
use Rattle.steps.specs.declared.Refusal.TheVariants.{Lengths, Tree, Codes, Numbers, Room, Edits, NotLaid, TooLarge}
use Rattle.steps.specs.declared.Refusal.{Refusal}
use Rattle.geometry.specs.declared.Size.{Size}
use Rattle.std.specs.Prelude.{◌≡◌, Bool, true, false, cond, List, ℕ, Float, Result, Ok, Err, ⊤}
use Rattle.std.proofs.Math.Path.{refl, subst}
use Rattle.std.proofs.Common.{sym, ap, ◌∙◌}
use Rattle.steps.specs.Noes.{size_tested}
use Rattle.steps.specs.Results.{size_reply, size_by_test, size_result}
use Rattle.steps.specs.declared.LayoutInput.{LayoutInput}
use Rattle.steps.specs.declared.RequestedAxis.{RequestedAxis}
use Rattle.tables.specs.Refusals.{SizeDue}
use Rattle.tables.proofs.Exactly.{Exactly, size-exactly}
use Rattle.outcomes.specs.Sizes.{large_size, whole, SizeGiven}

module _ (ws : List ℕ) (xs : List Float) (q : LayoutInput) (axis : RequestedAxis) where
  refused : (a : Refusal) → SizeDue ws xs q (Err a) → SizeGiven ws xs q axis (Err a)
  refused Lengths d = d
  refused (Tree i) d = d
  refused (Codes i) d = d
  refused (Numbers k) d = d
  refused Room d = d
  refused (Edits k) d = d
  refused NotLaid d = d
  refused (TooLarge i) d = absurd d

  abbrev by_large : Bool → Result (Size Float) Refusal
  by_large b = cond b (Err (TooLarge (record { 0 = 0 }))) (Ok (whole ws xs q axis))

  passed : (b : Bool) → large_size (whole ws xs q axis) ≡ b → SizeDue ws xs q (Ok tt) → SizeGiven ws xs q axis (by_large b)
  passed true e d = (d, e, refl)
  passed false e d = (d, e, refl)

  holds_by : (u : Result ⊤ Refusal) → size_tested ws xs q ≡ u → SizeGiven ws xs q axis (size_by_test u (size_reply (whole ws xs q axis)))
  unfolding size_by_test size_reply
  holds_by (Ok _) e = passed (large_size (whole ws xs q axis)) refl ((size-exactly ws xs q (Ok tt)).only e)
  holds_by (Err a) e = refused a ((size-exactly ws xs q (Err a)).only e)

  at_pass : (b : Bool) → SizeDue ws xs q (Ok tt) → large_size (whole ws xs q axis) ≡ b → size_result ws xs q axis ≡ by_large b
  unfolding size_result size_by_test size_reply
  at_pass b d e = rw ((size-exactly ws xs q (Ok tt)).given d, e)

  at-refuse : (a : Refusal) → SizeDue ws xs q (Err a) → size_result ws xs q axis ≡ Err a
  unfolding size_result size_by_test
  at-refuse a d = rw ((size-exactly ws xs q (Err a)).given d)

  gives : (s : Result (Size Float) Refusal) → SizeGiven ws xs q axis s → size_result ws xs q axis ≡ s
  gives (Ok s) (d, e, p) = at_pass false d e ∙ ap Ok (sym p)
  gives (Err (TooLarge i)) (d, e, p) = at_pass true d e ∙ ap (λ (k : ℕ). Err (TooLarge (record { 0 = k }))) (sym p)
  gives (Err Lengths) d = at-refuse Lengths d
  gives (Err (Tree i)) d = at-refuse (Tree i) d
  gives (Err (Codes i)) d = at-refuse (Codes i) d
  gives (Err (Numbers k)) d = at-refuse (Numbers k) d
  gives (Err Room) d = absurd d
  gives (Err (Edits k)) d = absurd d
  gives (Err NotLaid) d = absurd d

  -- all outcomes of a size question
  pub size-gives : (s r : Result (Size Float) Refusal) → r ≡ size_result ws xs q axis → Exactly (r ≡ s) (SizeGiven ws xs q axis s)
  unfolding size_result
  size-gives s r e = record { only = λ p. subst (SizeGiven ws xs q axis) (sym e ∙ p) (holds_by (size_tested ws xs q) refl); given = λ g. e ∙ gives s g }
