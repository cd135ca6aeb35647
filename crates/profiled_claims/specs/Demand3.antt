-- Demand 3 of calls asked as profile. Where the answer is not 11 they are the plain calls, so rows that they leave are rows that plain calls left.
use Rattle.steps.specs.declared.Refusal.{Refusal}
use Rattle.profiled.specs.declared.ProfileRefusal.TheVariants.{Plain}
use Rattle.std.specs.Prelude.{◌≡◌, refl, List, [], ℕ, ◌<◌, Float, None, Result, Ok}
use Rattle.std.proofs.Common.{sym, ap, ◌∙◌}
use Rattle.steps.specs.Page.{nodes_in}
use Rattle.steps.specs.Noes.{relayout_tested}
use Rattle.steps.specs.Results.{Reply, layout_result, relayout_result}
use Rattle.steps.specs.declared.LayoutInput.{LayoutInput}
use Rattle.laws.specs.Tables.{SameShape, Named, Calls, laid_out, laid_again, AgreeAt, below_at}
use Rattle.laws.specs.Answers.{relayout_layout}
use Rattle.claims.specs.Claims.{relayout_is_layout, relayouts_agree}
use Rattle.profile.specs.Profile.{profile_spot}
use Rattle.tables.specs.Early.{early_tested}
use Rattle.profiled.specs.Profiled.{profile_tested, ProfileReply, profile_reply, profiled_layout_result, profiled_relayout_result, plainly}
use Rattle.profiled.specs.Public.{ProfileReplied}
use Rattle.profiled_claims.specs.Cases.{as_plain, is_as_plain, in-plain, same_answer, early-refuses, early-passes, layout-lent, relayout-lent, relayout-too}

-- ---- an answer that is not 11 is the plain call's, with all that it leaves
pub layout_as_plain : (ws : List ℕ) (xs rs : List Float) (ms cw : List ℕ) (cx : List Float) (q : LayoutInput) (a : Result ℕ Refusal) → (profiled_layout_result ws xs rs ms cw cx q).answer ≡ plainly a → profiled_layout_result ws xs rs ms cw cx q ≡ as_plain (layout_result ws xs rs ms cw cx q)
unfolding profiled_layout_result
layout_as_plain ws xs rs ms cw cx q a e =
    is_as_plain (layout_result ws xs rs ms cw cx q) rs ms cw cx (early_tested ws xs rs ms q) (profile_spot ws xs q) a (λ b t. layout-lent ws xs rs ms cw cx q b (early-refuses ws xs rs ms cw cx q b t)) e

pub relayout_as_plain : (ws : List ℕ) (xs rs : List Float) (ms cw : List ℕ) (cx : List Float) (es : List ℕ) (q : LayoutInput) (a : Result ℕ Refusal) → (profiled_relayout_result ws xs rs ms cw cx es q).answer ≡ plainly a → profiled_relayout_result ws xs rs ms cw cx es q ≡ as_plain (relayout_result ws xs rs ms cw cx es q)
unfolding profiled_relayout_result
relayout_as_plain ws xs rs ms cw cx es q a e =
    is_as_plain (relayout_result ws xs rs ms cw cx es q) rs ms cw cx (early_tested ws xs rs ms q) (profile_spot ws xs q) a
    (λ b t. relayout-lent ws xs rs ms cw cx q es b (relayout-too ws xs rs ms cw cx q es b (early-refuses ws xs rs ms cw cx q b t))) e

-- ---- rows that accepted calls left, asked as profile
rows_of : (r : Reply) {p : ProfileReply} {rs : List Float} → p ≡ as_plain r → rs ≡ p.rows → rs ≡ r.rows
rows_of r e f = f ∙ ap (λ (x : ProfileReply). x.rows) e

marks_of_lem : (r : Reply) {p : ProfileReply} {ms : List ℕ} → p ≡ as_plain r → ms ≡ p.marks → ms ≡ r.marks
marks_of_lem r e f = f ∙ ap (λ (x : ProfileReply). x.marks) e

pub left_by_layout : (ws : List ℕ) (xs rs : List Float) (ms cw : List ℕ) (cx : List Float) (q : LayoutInput) (k : ℕ) (rs' : List Float) (ms' cw' : List ℕ) (cx' : List Float) → ProfileReplied (profiled_layout_result ws xs rs ms cw cx q) (Ok k) rs' ms' cw' cx' → Calls ws xs q rs' ms'
unfolding plainly
left_by_layout ws xs rs ms cw cx q k rs' ms' cw' cx' c =
    let e = layout_as_plain ws xs rs ms cw cx q (Ok k) (sym c.answer_is) in
    rw (rows_of (layout_result ws xs rs ms cw cx q) e c.rows_are, marks_of_lem (layout_result ws xs rs ms cw cx q) e c.marks_are) (laid_out ws xs rs ms cw cx q k (same_answer e (sym c.answer_is)))

pub left_by_relayout : (ws : List ℕ) (xs : List Float) (q : LayoutInput) (rs : List Float) (ms : List ℕ) (ws' : List ℕ) (xs' : List Float) (cw : List ℕ) (cx : List Float) (es : List ℕ) (p : LayoutInput) (k : ℕ) (rs' : List Float) (ms' cw' : List ℕ) (cx' : List Float) → Calls ws xs q rs ms
    → SameShape ws ws' → Named es ws xs ws' xs' → ProfileReplied (profiled_relayout_result ws' xs' rs ms cw cx es p) (Ok k) rs' ms' cw' cx' → Calls ws' xs' p rs' ms'
unfolding plainly
left_by_relayout ws xs q rs ms ws' xs' cw cx es p k rs' ms' cw' cx' calls shape named c =
    let e = relayout_as_plain ws' xs' rs ms cw cx es p (Ok k) (sym c.answer_is) in
    rw (rows_of (relayout_result ws' xs' rs ms cw cx es p) e c.rows_are, marks_of_lem (relayout_result ws' xs' rs ms cw cx es p) e c.marks_are) (laid_again ws xs q rs ms ws' xs' cw cx es p k calls shape named (same_answer e (sym c.answer_is)))

-- ---- Rows that calls left, asked as profile or not, the same shape, every changed node named: a relayout asked as profile that passes the plain tests has
-- the whole result of a layout asked so, 11 too.
pub profiled_relayout_is_layout : (ws : List ℕ) (xs : List Float) (q : LayoutInput) (rs : List Float) (ms : List ℕ) (ws' : List ℕ) (xs' : List Float) (cw : List ℕ) (cx : List Float) (es : List ℕ) (p : LayoutInput) → Calls ws xs q rs ms → SameShape ws ws' → Named es ws xs ws' xs'
    → relayout_tested ws' xs' rs ms cw cx es p ≡ Ok tt → profiled_relayout_result ws' xs' rs ms cw cx es p ≡ profiled_layout_result ws' xs' rs ms cw cx p
unfolding profiled_relayout_result profiled_layout_result
profiled_relayout_is_layout ws xs q rs ms ws' xs' cw cx es p calls shape named e =
    ap (λ (r : Reply). profile_reply (profile_tested (early_tested ws' xs' rs ms p) (profile_spot ws' xs' p)) r rs ms cw cx) (relayout_is_layout ws xs q rs ms ws' xs' cw cx es p calls shape named e)

-- Two pages that differ only below kept nodes, where the replacements pass 11 too: one result.
pub profiled_relayouts_agree : (ws : List ℕ) (xs : List Float) (ws' : List ℕ) (xs' : List Float) (rs : List Float) (ms cw : List ℕ) (cx : List Float) (es : List ℕ) (q : LayoutInput) → SameShape ws ws'
    → ((i : ℕ) → i < nodes_in ws → AgreeAt ws xs ws' xs' (below_at ws xs rs ms es q i) i) → relayout_tested ws xs rs ms cw cx es q ≡ Ok tt → relayout_tested ws' xs' rs ms cw cx es q ≡ Ok tt
    → profile_spot ws xs q ≡ None → profile_spot ws' xs' q ≡ None → profiled_relayout_result ws xs rs ms cw cx es q ≡ profiled_relayout_result ws' xs' rs ms cw cx es q
unfolding profiled_relayout_result
profiled_relayouts_agree ws xs ws' xs' rs ms cw cx es q shape agree e f s t =
    in-plain (relayout_result ws xs rs ms cw cx es q) rs ms cw cx (early_tested ws xs rs ms q) (profile_spot ws xs q) (early-passes ws xs rs ms cw cx q (relayout_layout ws xs rs ms cw cx es q e)) s
    ∙ ap as_plain (relayouts_agree ws xs ws' xs' rs ms cw cx es q shape agree e f)
    ∙ sym (in-plain (relayout_result ws' xs' rs ms cw cx es q) rs ms cw cx (early_tested ws' xs' rs ms q) (profile_spot ws' xs' q) (early-passes ws' xs' rs ms cw cx q (relayout_layout ws' xs' rs ms cw cx es q f)) t)
