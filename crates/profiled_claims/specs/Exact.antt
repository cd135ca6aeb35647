-- Asked as profile: 8 is not given, every refusal leaves all as lent, and what is accepted is exact.
use Rattle.steps.specs.declared.Refusal.TheVariants.{TooLarge}
use Rattle.steps.specs.declared.Refusal.{Refusal}
use Rattle.profiled.specs.declared.ProfileRefusal.TheVariants.{Plain}
use Rattle.std.specs.Prelude.{◌≡◌, List, [], ℕ, Float, None, Result, Ok, Err, ⊤}
use Rattle.std.proofs.Math.Path.{refl, ap}
use Rattle.std.proofs.Common.{sym, ◌∙◌, arith}
use Rattle.tree.specs.declared.NodeId.{NodeId}
use Rattle.geometry.specs.declared.Size.{Size}
use Rattle.steps.specs.Noes.{layout_tested, relayout_tested, size_tested}
use Rattle.steps.specs.Results.{Reply, layout_result, relayout_result, size_result}
use Rattle.steps.specs.declared.RequestedAxis.{RequestedAxis}
use Rattle.steps.specs.declared.LayoutInput.{LayoutInput}
use Rattle.tables.proofs.Exactly.{size-exactly, layout-exactly, relayout-exactly}
use Rattle.laws.specs.Tables.{SameShape, Named, Calls}
use Rattle.laws.specs.Answers.{relayout_layout}
use Rattle.profile.specs.Profile.{profile_spot}
use Rattle.exact.specs.OnTables.{rows_z, ExactReply}
use Rattle.exact.proofs.OnTables.{layout_is_exact, size_question_is_exact}
use Rattle.exact_claims.specs.Relayout.{relayout_is_exact}
use Rattle.tables.specs.Early.{early_tested}
use Rattle.profiled.specs.Profiled.{ProfileReply, profiled_layout_result, profiled_relayout_result, profiled_size_result, plainly}
use Rattle.profiled_claims.specs.Cases.{as_lent, AllLent, lent_again, lent-unless, in-plain, plain_in, early-passes, same_answer, layout-lent, relayout-lent, told, size_cases}
use Rattle.profiled_claims.specs.Demand3.{layout_as_plain, relayout_as_plain}

done_large : {A : Type 0} {k : ℕ} {i : NodeId} → ◌≡◌ {A = Result ℕ Refusal} (Ok k) (Err (TooLarge i)) → A
done_large e =
    let z : ◌≡◌ {A = ℕ} 0 1 = cc in
    absurd (omega arith)

-- ---- a layout
module _ (ws : List ℕ) (xs rs : List Float) (ms cw : List ℕ) (cx : List Float) (q : LayoutInput) where
  layout-in : (a : Result ℕ Refusal) → (profiled_layout_result ws xs rs ms cw cx q).answer ≡ plainly a → layout_tested ws xs rs ms cw cx q ≡ Ok tt → profile_spot ws xs q ≡ None
  unfolding profiled_layout_result
  layout-in a e p = plain_in (layout_result ws xs rs ms cw cx q) rs ms cw cx (early_tested ws xs rs ms q) (profile_spot ws xs q) a (early-passes ws xs rs ms cw cx q p) e

  -- past the tests every number is the integer engine's
  pub layout-exact : (a : Result ℕ Refusal) → (profiled_layout_result ws xs rs ms cw cx q).answer ≡ plainly a → layout_tested ws xs rs ms cw cx q ≡ Ok tt → ExactReply (layout_result ws xs rs ms cw cx q) (rows_z ws xs q) cw cx
  layout-exact a e p = layout_is_exact ws xs rs ms cw cx q p (layout-in a e p)

  never-by : (i : NodeId) (t : Result ⊤ Refusal) → layout_tested ws xs rs ms cw cx q ≡ t → (profiled_layout_result ws xs rs ms cw cx q).answer ≡ Err (Plain (TooLarge i)) → ⊥
  unfolding plainly
  never-by i (Ok _) p e =
      done_large (sym (layout-exact (Err (TooLarge i)) e p).answer ∙ same_answer (layout_as_plain ws xs rs ms cw cx q (Err (TooLarge i)) e) e)
  never-by i (Err b) p e =
      let z : ◌≡◌ {A = Result ℕ Refusal} (Err b) (Err (TooLarge i)) = sym (ap (λ (r : Reply). r.answer) (layout-lent ws xs rs ms cw cx q b p)) ∙ same_answer (layout_as_plain ws xs rs ms cw cx q (Err (TooLarge i)) e) e in
      (layout-exactly ws xs rs ms cw cx q (Err (TooLarge i))).only (p ∙ ap told z)

  -- whatever is not accepted leaves all as lent
  refused-by : (t : Result ⊤ Refusal) → layout_tested ws xs rs ms cw cx q ≡ t → ((k : ℕ) → (profiled_layout_result ws xs rs ms cw cx q).answer ≡ Ok k → ⊥) → early_tested ws xs rs ms q ≡ Ok tt → profile_spot ws xs q ≡ None
      → layout_result ws xs rs ms cw cx q ≡ as_lent (layout_result ws xs rs ms cw cx q).answer rs ms cw cx
  unfolding profiled_layout_result plainly
  refused-by (Ok _) p n e s =
      let x = (layout_is_exact ws xs rs ms cw cx q p s).answer in
      let y = in-plain (layout_result ws xs rs ms cw cx q) rs ms cw cx (early_tested ws xs rs ms q) (profile_spot ws xs q) e s in
      absurd (n _ (ap (λ (r : ProfileReply). r.answer) y ∙ ap plainly x))
  refused-by (Err b) p n e s = lent_again (layout-lent ws xs rs ms cw cx q b p)

  pub layout-refused-leaves : ((k : ℕ) → (profiled_layout_result ws xs rs ms cw cx q).answer ≡ Ok k → ⊥) → AllLent (profiled_layout_result ws xs rs ms cw cx q) rs ms cw cx
  unfolding profiled_layout_result
  layout-refused-leaves n = lent-unless (layout_result ws xs rs ms cw cx q) rs ms cw cx (early_tested ws xs rs ms q) (profile_spot ws xs q) (refused-by (layout_tested ws xs rs ms cw cx q) refl n)

  pub layout-never-8 : (i : NodeId) → (profiled_layout_result ws xs rs ms cw cx q).answer ≡ Err (Plain (TooLarge i)) → ⊥
  layout-never-8 i e = never-by i (layout_tested ws xs rs ms cw cx q) refl e

-- ---- a relayout, from rows that calls left
module _ (ws : List ℕ) (xs : List Float) (q : LayoutInput) (rs : List Float) (ms : List ℕ) (ws' : List ℕ) (xs' : List Float) (cw : List ℕ) (cx : List Float) (es : List ℕ) (p : LayoutInput) (calls : Calls ws xs q rs ms) (shape : SameShape ws ws')
    (named : Named es ws xs ws' xs') where
  relayout-in : (a : Result ℕ Refusal) → (profiled_relayout_result ws' xs' rs ms cw cx es p).answer ≡ plainly a → relayout_tested ws' xs' rs ms cw cx es p ≡ Ok tt → profile_spot ws' xs' p ≡ None
  unfolding profiled_relayout_result
  relayout-in a e t =
      plain_in (relayout_result ws' xs' rs ms cw cx es p) rs ms cw cx (early_tested ws' xs' rs ms p) (profile_spot ws' xs' p) a (early-passes ws' xs' rs ms cw cx p (relayout_layout ws' xs' rs ms cw cx es p t)) e

  pub relayout-exact : (a : Result ℕ Refusal) → (profiled_relayout_result ws' xs' rs ms cw cx es p).answer ≡ plainly a → relayout_tested ws' xs' rs ms cw cx es p ≡ Ok tt → ExactReply (relayout_result ws' xs' rs ms cw cx es p) (rows_z ws' xs' p) cw cx
  relayout-exact a e t = relayout_is_exact ws xs q rs ms ws' xs' cw cx es p calls shape named t (relayout-in a e t)

  again_by : (i : NodeId) (t : Result ⊤ Refusal) → relayout_tested ws' xs' rs ms cw cx es p ≡ t → (profiled_relayout_result ws' xs' rs ms cw cx es p).answer ≡ Err (Plain (TooLarge i)) → ⊥
  unfolding plainly
  again_by i (Ok _) t e =
      done_large (sym (relayout-exact (Err (TooLarge i)) e t).answer ∙ same_answer (relayout_as_plain ws' xs' rs ms cw cx es p (Err (TooLarge i)) e) e)
  again_by i (Err b) t e =
      let z : ◌≡◌ {A = Result ℕ Refusal} (Err b) (Err (TooLarge i)) = sym (ap (λ (r : Reply). r.answer) (relayout-lent ws' xs' rs ms cw cx p es b t)) ∙ same_answer (relayout_as_plain ws' xs' rs ms cw cx es p (Err (TooLarge i)) e) e in
      (relayout-exactly ws' xs' rs ms cw cx p es (Err (TooLarge i))).only (t ∙ ap told z)

  not-again-by : (t : Result ⊤ Refusal) → relayout_tested ws' xs' rs ms cw cx es p ≡ t → ((k : ℕ) → (profiled_relayout_result ws' xs' rs ms cw cx es p).answer ≡ Ok k → ⊥) → early_tested ws' xs' rs ms p ≡ Ok tt → profile_spot ws' xs' p ≡ None
      → relayout_result ws' xs' rs ms cw cx es p ≡ as_lent (relayout_result ws' xs' rs ms cw cx es p).answer rs ms cw cx
  unfolding profiled_relayout_result plainly
  not-again-by (Ok _) t n e s =
      let x = (relayout_is_exact ws xs q rs ms ws' xs' cw cx es p calls shape named t s).answer in
      let y = in-plain (relayout_result ws' xs' rs ms cw cx es p) rs ms cw cx (early_tested ws' xs' rs ms p) (profile_spot ws' xs' p) e s in
      absurd (n _ (ap (λ (r : ProfileReply). r.answer) y ∙ ap plainly x))
  not-again-by (Err b) t n e s = lent_again (relayout-lent ws' xs' rs ms cw cx p es b t)

  pub relayout-refused-leaves : ((k : ℕ) → (profiled_relayout_result ws' xs' rs ms cw cx es p).answer ≡ Ok k → ⊥) → AllLent (profiled_relayout_result ws' xs' rs ms cw cx es p) rs ms cw cx
  unfolding profiled_relayout_result
  relayout-refused-leaves n =
      lent-unless (relayout_result ws' xs' rs ms cw cx es p) rs ms cw cx (early_tested ws' xs' rs ms p) (profile_spot ws' xs' p) (not-again-by (relayout_tested ws' xs' rs ms cw cx es p) refl n)

  pub relayout-never-8 : (i : NodeId) → (profiled_relayout_result ws' xs' rs ms cw cx es p).answer ≡ Err (Plain (TooLarge i)) → ⊥
  relayout-never-8 i e = again_by i (relayout_tested ws' xs' rs ms cw cx es p) refl e

-- ---- the size question
pub size_never_8 : (ws : List ℕ) (xs : List Float) (q : LayoutInput) (a : RequestedAxis) (i : NodeId) → profiled_size_result ws xs q a ≡ Err (Plain (TooLarge i)) → ⊥
unfolding profiled_size_result plainly
size_never_8 ws xs q a i e =
    size_cases (size_tested ws xs q) (profile_spot ws xs q) (size_result ws xs q a) (TooLarge i) e
    (λ t. (size-exactly ws xs q (Err (TooLarge i))).only t)
    (λ t s r. sized-refused (sym (size_question_is_exact ws xs q a t s).answer ∙ r))
  where
    sized-refused : {z : Size Float} {b : Refusal} → ◌≡◌ {A = Result (Size Float) Refusal} (Ok z) (Err b) → ⊥
    sized-refused f =
        let z : ◌≡◌ {A = ℕ} 0 1 = cc in
        absurd (omega arith)
