-- The theorem of lent tables: of a layout, of a relayout from rows that calls left, and of the size question.
use Rattle.steps.specs.declared.Refusal.TheVariants.{Lengths}
use Rattle.std.specs.Prelude.{◌≡◌, List, [], ℕ, Float, None, Ok}
use Rattle.steps.specs.Page.{nodes_in, page_of}
use Rattle.steps.specs.SizeQuestion.{size_of}
use Rattle.steps.specs.Layout.{fresh}
use Rattle.steps.specs.Noes.{bad_tables, refuse_if, layout_tested, relayout_tested, size_tested}
use Rattle.steps.specs.Results.{layout_result, relayout_result, size_result}
use Rattle.steps.specs.declared.LayoutInput.{LayoutInput}
use Rattle.steps.specs.declared.RequestedAxis.{RequestedAxis}
use Rattle.tables.proofs.Passing.{then_pass_1, then_pass_2, if_pass}
use Rattle.laws.specs.Tables.{SameShape, Named, Checks, Calls}
use Rattle.laws.proofs.Demand3.{relayout_is_layout}
use Rattle.laws.specs.Answers.{relayout_layout}
use Rattle.integers.specs.Sizes.{size_of_z}
use Rattle.profile.specs.Profile.{profile_spot}
use Rattle.exact.specs.Read.{input_z, page_z}
use Rattle.exact.proofs.FreshExact.{fresh_is_exact, candidates_are_exact}
use Rattle.exact.proofs.Sizes.{size_is_exact}
use Rattle.exact.specs.Lists.{rows_out_lem, no_eight}
use Rattle.exact.specs.OnTables.{rows_z, told, ExactReply, passed_reply, exact_reply, layout_told, ExactSize, by_test_lem}

pub layout_is_exact : (ws : List ℕ) (xs rs : List Float) (ms cw : List ℕ) (cx : List Float) (q : LayoutInput) → layout_tested ws xs rs ms cw cx q ≡ Ok tt → profile_spot ws xs q ≡ None
    → ExactReply (layout_result ws xs rs ms cw cx q) (rows_z ws xs q) cw cx
unfolding layout_result
layout_is_exact ws xs rs ms cw cx q e s =
    let t = layout_told ws xs rs ms cw cx q e s in
    let p = fresh_is_exact (page_of ws xs []) q t.page t.question t.count t.depth in
    let c = candidates_are_exact (page_of ws xs []) q t.page t.question t.count t.depth in
    rw (passed_reply (layout_tested ws xs rs ms cw cx q) (nodes_in ws) (fresh (page_of ws xs []) q).rows rs ms cw cx e (no_eight _ _ (nodes_in ws) (rows_out_lem _ _ p))) (exact_reply _ _ cw cx p c)

-- ---- a relayout from rows that calls left, whatever pages these were: by demand 3 it is a layout. `checks` as in crate laws; crate exact_claims puts it in.
module _ (checks : Checks) where
  pub relayout_is_exact : (ws : List ℕ) (xs : List Float) (q : LayoutInput) (rs : List Float) (ms : List ℕ) (ws' : List ℕ) (xs' : List Float) (cw : List ℕ) (cx : List Float) (es : List ℕ) (p : LayoutInput)
      → Calls ws xs q rs ms → SameShape ws ws' → Named es ws xs ws' xs' → relayout_tested ws' xs' rs ms cw cx es p ≡ Ok tt → profile_spot ws' xs' p ≡ None
      → ExactReply (relayout_result ws' xs' rs ms cw cx es p) (rows_z ws' xs' p) cw cx
  relayout_is_exact ws xs q rs ms ws' xs' cw cx es p calls shape named e s =
      rw (relayout_is_layout checks ws xs q rs ms ws' xs' cw cx es p calls shape named e) (layout_is_exact ws' xs' rs ms cw cx p (relayout_layout ws' xs' rs ms cw cx es p e) s)

pub size_question_is_exact : (ws : List ℕ) (xs : List Float) (q : LayoutInput) (a : RequestedAxis) → size_tested ws xs q ≡ Ok tt → profile_spot ws xs q ≡ None → ExactSize ws xs q a (size_of_z (page_z (page_of ws xs [])) (input_z q) a)
unfolding size_result size_tested
size_question_is_exact ws xs q a e s =
    let b = if_pass (bad_tables ws xs) Lengths (then_pass_1 (refuse_if (bad_tables ws xs) Lengths) _ e) in
    let t = told ws xs q b (then_pass_2 (refuse_if (bad_tables ws xs) Lengths) _ e) s in
    let p = size_is_exact (page_of ws xs []) q a t.page t.question t.count t.depth in
    record { size = size_of (page_of ws xs []) q a; answer = by_test_lem _ _ _ e p; width = p.width.whole; height = p.height.whole }
