-- The tests before the plain call: what 1 to 4 tell; and from the tests to what the calls promise.
use Rattle.steps.specs.declared.Refusal.TheVariants.{Lengths}
use Rattle.steps.specs.declared.Refusal.{Refusal}
use Rattle.profiled.specs.declared.ProfileRefusal.{ProfileRefusal}
use Rattle.geometry.specs.declared.Size.{Size}
use Rattle.std.specs.Prelude.{Option, Result, Ok, Err, ⊤}
use mathlib.Core.Path.{◌≡◌, refl, sym, ap, ◌∙◌}
use mathlib.Core.Bool.{false}
use mathlib.Core.List.{List}
use Prim.Native.Nat.{ℕ}
use native.Mathlib.Omega.{arith}
use lib.Ieee.{Float}
use Rattle.steps.specs.Noes.{refuse_if, bad_tables, size_tested}
use Rattle.steps.specs.Results.{Reply, layout_result, relayout_result, size_result}
use Rattle.steps.specs.declared.LayoutInput.{LayoutInput}
use Rattle.steps.specs.declared.RequestedAxis.{RequestedAxis}
use Rattle.tables.specs.Early.{early_tested}
use Rattle.tables.proofs.Passing.{sized, then_pass_1, if_pass, early-sized}
use Rattle.layout.specs.Public.{Replied}
use Rattle.profile.specs.Profile.{profile_spot}
use Rattle.profiles.specs.Numbers.{Placed}
use Rattle.profiled.specs.Profiled.{profile_paper, profile_size_paper, profile_tested, profile_reply, profiled_layout_result, profiled_relayout_result, plainly, size_or, profiled_size_result, yes_by, yes_or_no}
use Rattle.profiled.specs.Public.{ProfileReplied, ProfileSaid, ProfileSized}

-- ---- tests that pass have counted the nodes, and their numbers
placed : (ws : List ℕ) (xs : List Float) → bad_tables ws xs ≡ false → Placed ws xs
placed ws xs e =
    let s = sized ws xs e in
    record { few = s.few; planes = omega (arith, s.numbers) }

pub few_early : (ws : List ℕ) (xs rs : List Float) (ms : List ℕ) (q : LayoutInput) → early_tested ws xs rs ms q ≡ Ok tt → Placed ws xs
few_early ws xs rs ms q e = placed ws xs (early-sized ws xs rs ms q e)

pub few_sized : (ws : List ℕ) (xs : List Float) (q : LayoutInput) → size_tested ws xs q ≡ Ok tt → Placed ws xs
unfolding size_tested
few_sized ws xs q e = placed ws xs (if_pass (bad_tables ws xs) Lengths (then_pass_1 (refuse_if (bad_tables ws xs) Lengths) _ e))

-- ---- one case of a test, of a number
pub tested_so : {t : Result ⊤ Refusal} {s : Option ℕ} {u : Result ⊤ Refusal} {v : Option ℕ} → t ≡ u → s ≡ v → profile_tested t s ≡ profile_tested u v
tested_so e f = rw (e, f)

-- ---- replies
pub refused : {t p : Result ⊤ ProfileRefusal} (r : Reply) (rs : List Float) (ms cw : List ℕ) (cx : List Float) {a : ProfileRefusal} → p ≡ t → p ≡ Err a → ProfileReplied (profile_reply t r rs ms cw cx) (Err a) rs ms cw cx
unfolding profile_reply
refused r rs ms cw cx e f = rw (sym e ∙ f) (record { answer_is = refl; paper_is = refl; rows_are = refl; marks_are = refl; words_are = refl; numbers_are = refl })

pub accepted : {t p : Result ⊤ ProfileRefusal} (r : Reply) (rs : List Float) (ms cw : List ℕ) (cx : List Float) {a : Result ℕ Refusal} {rs2 : List Float} {ms2 cw2 : List ℕ} {cx2 : List Float} → p ≡ t → p ≡ Ok tt → Replied r a rs2 ms2 cw2 cx2 → ProfileReplied (profile_reply t r rs ms cw cx) (plainly a) rs2 ms2 cw2 cx2
unfolding profile_reply
accepted r rs ms cw cx e f s =
    rw (sym e ∙ f) (record { answer_is = ap plainly s.answer_is; paper_is = ap (λ (x : Result ℕ Refusal). profile_paper (plainly x)) s.answer_is; rows_are = s.rows_are; marks_are = s.marks_are; words_are = s.words_are; numbers_are = s.numbers_are })

module _ (ws : List ℕ) (xs rs : List Float) (ms cw : List ℕ) (cx : List Float) {q k : LayoutInput} {t : Result ⊤ Refusal} {p : Result ⊤ ProfileRefusal} (e : k ≡ q) (f : t ≡ early_tested ws xs rs ms k) (g : p ≡ profile_tested t (profile_spot ws xs k)) where
  due : p ≡ profile_tested (early_tested ws xs rs ms q) (profile_spot ws xs q)
  due = g ∙ tested_so (f ∙ ap (early_tested ws xs rs ms) e) (ap (profile_spot ws xs) e)

  pub layout_refused : {a : ProfileRefusal} → p ≡ Err a → ProfileReplied (profiled_layout_result ws xs rs ms cw cx q) (Err a) rs ms cw cx
  unfolding profiled_layout_result
  layout_refused h = refused _ rs ms cw cx due h

  pub layout_accepted : {a : Result ℕ Refusal} {rs2 : List Float} {ms2 cw2 : List ℕ} {cx2 : List Float} → p ≡ Ok tt → Replied (layout_result ws xs rs ms cw cx q) a rs2 ms2 cw2 cx2 → ProfileReplied (profiled_layout_result ws xs rs ms cw cx q) (plainly a) rs2 ms2 cw2 cx2
  unfolding profiled_layout_result
  layout_accepted h s = accepted _ rs ms cw cx due h s

  pub relayout_refused : (es : List ℕ) {a : ProfileRefusal} → p ≡ Err a → ProfileReplied (profiled_relayout_result ws xs rs ms cw cx es q) (Err a) rs ms cw cx
  unfolding profiled_relayout_result
  relayout_refused es h = refused _ rs ms cw cx due h

  pub relayout_accepted : (es : List ℕ) {a : Result ℕ Refusal} {rs2 : List Float} {ms2 cw2 : List ℕ} {cx2 : List Float} → p ≡ Ok tt → Replied (relayout_result ws xs rs ms cw cx es q) a rs2 ms2 cw2 cx2 → ProfileReplied (profiled_relayout_result ws xs rs ms cw cx es q) (plainly a) rs2 ms2 cw2 cx2
  unfolding profiled_relayout_result
  relayout_accepted es h s = accepted _ rs ms cw cx due h s

-- ---- sizes and the yes or no
module _ (ws : List ℕ) (xs : List Float) {q k : LayoutInput} {t : Result ⊤ Refusal} {p : Result ⊤ ProfileRefusal} (e : k ≡ q) (f : t ≡ size_tested ws xs k) (g : p ≡ profile_tested t (profile_spot ws xs k)) where
  size-due : profile_tested (size_tested ws xs q) (profile_spot ws xs q) ≡ p
  size-due = sym (g ∙ tested_so (f ∙ ap (size_tested ws xs) e) (ap (profile_spot ws xs) e))

  so-said : {r : Result ℕ ProfileRefusal} → r ≡ yes_or_no ws xs q → ProfileSaid (yes_or_no ws xs q) r
  so-said h = record { answer_is = h; paper_is = ap profile_paper h }

  no-is : {a : ProfileRefusal} → p ≡ Err a → Err a ≡ yes_or_no ws xs q
  unfolding yes_or_no yes_by
  no-is h = rw (size-due ∙ h)

  yes-is : p ≡ Ok tt → Ok 0 ≡ yes_or_no ws xs q
  unfolding yes_or_no yes_by
  yes-is h = rw (size-due ∙ h)

  pub said-no : {a : ProfileRefusal} → p ≡ Err a → ProfileSaid (yes_or_no ws xs q) (Err a)
  said-no h = so-said (no-is h)

  pub said-yes : p ≡ Ok tt → ProfileSaid (yes_or_no ws xs q) (Ok 0)
  said-yes h = so-said (yes-is h)

  so-sized : {r : Result (Size Float) ProfileRefusal} (axis : RequestedAxis) → r ≡ profiled_size_result ws xs q axis → ProfileSized (profiled_size_result ws xs q axis) r
  so-sized axis h = record { answer_is = h; paper_is = ap profile_size_paper h }

  pub size-refused : (axis : RequestedAxis) {a : ProfileRefusal} → p ≡ Err a → ProfileSized (profiled_size_result ws xs q axis) (Err a)
  unfolding profiled_size_result size_or
  size-refused axis h = so-sized axis (rw (size-due ∙ h))

  pub size-given : (axis : RequestedAxis) {r : Result (Size Float) ProfileRefusal} {s : Result (Size Float) Refusal} → p ≡ Ok tt → s ≡ size_result ws xs q axis → r ≡ plainly s → ProfileSized (profiled_size_result ws xs q axis) r
  unfolding profiled_size_result size_or
  size-given axis h i j = so-sized axis (rw (size-due ∙ h, ← i) j)
