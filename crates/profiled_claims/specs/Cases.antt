-- A call asked as profile by cases: an early refusal, 11, or the plain result.
use Rattle.steps.specs.declared.Refusal.TheVariants.{Lengths}
use Rattle.steps.specs.declared.Refusal.{Refusal}
use Rattle.profiled.specs.declared.ProfileRefusal.TheVariants.{Plain, Outside}
use Rattle.profiled.specs.declared.ProfileRefusal.{ProfileRefusal}
use Rattle.geometry.specs.declared.Size.{Size}
use Rattle.std.specs.Prelude.{◌≡◌, Bool, true, false, ◌||◌, List, [], ℕ, Float, Option, None, Some, Result, Ok, Err, ⊤}
use Rattle.std.proofs.Math.Path.{refl, ap}
use Rattle.std.proofs.Common.{sym, ◌∙◌, arith}
use Rattle.steps.specs.Noes.{refuse_if, and_then, bad_tables, bad_rows, no5, page_tested, layout_tested, relayout_tested, no6, no7}
use Rattle.steps.specs.Page.{nodes_in}
use Rattle.steps.specs.Results.{Reply, tested, layout_result, relayout_result}
use Rattle.steps.specs.declared.LayoutInput.{LayoutInput}
use Rattle.tables.specs.Early.{early_tested}
use Rattle.profiled.specs.Profiled.{profile_tested, ProfileReply, profile_reply, plainly, size_or}

-- a plain reply seen as one of these, and a refusal that leaves all as lent
abbrev pub as_plain : Reply → ProfileReply
as_plain r = record { answer = plainly r.answer; rows = r.rows; marks = r.marks; words = r.words; numbers = r.numbers }

abbrev pub as_lent : Result ℕ Refusal → List Float → List ℕ → List ℕ → List Float → Reply
as_lent a rs ms cw cx = record { answer = a; rows = rs; marks = ms; words = cw; numbers = cx }

-- the answer aside, all as lent
abbrev pub AllLent : ProfileReply → List Float → List ℕ → List ℕ → List Float → Type 0
AllLent p rs ms cw cx = p ≡ record { answer = p.answer; rows = rs; marks = ms; words = cw; numbers = cx }

pub no_plain : {A T : Type 0} {k : ℕ} (a : Result T Refusal) → Err (Outside k) ≡ plainly a → A
unfolding plainly
no_plain (Ok x) e =
    let z : ◌≡◌ {A = ℕ} 0 1 = cc in
    absurd (omega arith)
no_plain (Err a) e =
    let z : ◌≡◌ {A = ℕ} 0 1 = cc in
    absurd (omega arith)

pub no_outside : {A T : Type 0} {k : ℕ} (a : Result T Refusal) → plainly a ≡ Err (Outside k) → A
no_outside a e = no_plain a (sym e)

pub plain_answer : {T : Type 0} (a b : Result T Refusal) → plainly a ≡ plainly b → a ≡ b
unfolding plainly
plain_answer (Ok x) (Ok y) e = cc
plain_answer (Ok x) (Err b) e = cc
plain_answer (Err a) (Ok y) e = cc
plain_answer (Err a) (Err b) e = cc

pub one_place : {k j : ℕ} → ◌≡◌ {A = ProfileRefusal} (Outside k) (Outside j) → k ≡ j
one_place e = cc

pub refused_so : {T : Type 0} {a b : ProfileRefusal} → ◌≡◌ {A = Result T ProfileRefusal} (Err a) (Err b) → a ≡ b
refused_so e = cc

-- ---- 11, and an answer of the plain calls
module _ (r : Reply) (rs : List Float) (ms cw : List ℕ) (cx : List Float) where
  -- 11 at k
  pub eleven-at : (t : Result ⊤ Refusal) (s : Option ℕ) (k : ℕ) → (profile_reply (profile_tested t s) r rs ms cw cx).answer ≡ Err (Outside k) → (t ≡ Ok tt) × (s ≡ Some k)
  unfolding profile_tested profile_reply plainly
  eleven-at (Err a) s k e = no_outside (Err a) e
  eleven-at (Ok _) (Some j) k e = (refl, ap Some (one_place (refused_so e)))
  eleven-at (Ok _) None k e = no_outside r.answer e

  pub at-eleven : (t : Result ⊤ Refusal) (s : Option ℕ) (k : ℕ) → t ≡ Ok tt → s ≡ Some k → profile_reply (profile_tested t s) r rs ms cw cx ≡ record { answer = Err (Outside k); rows = rs; marks = ms; words = cw; numbers = cx }
  unfolding profile_tested profile_reply
  at-eleven t s k e f = rw (e, f)

  -- accepted by the profile's test: the plain result
  pub in-plain : (t : Result ⊤ Refusal) (s : Option ℕ) → t ≡ Ok tt → s ≡ None → profile_reply (profile_tested t s) r rs ms cw cx ≡ as_plain r
  unfolding profile_tested profile_reply
  in-plain t s e f = rw (e, f)

  -- what the plain call also refuses
  pub early-plain : (t : Result ⊤ Refusal) (s : Option ℕ) (a : Refusal) → t ≡ Err a → r ≡ as_lent (Err a) rs ms cw cx → profile_reply (profile_tested t s) r rs ms cw cx ≡ as_plain r
  unfolding profile_tested profile_reply plainly
  early-plain t s a e f = rw (e, f)

  -- an answer that is not 11 is the plain call's, and so is all that it leaves
  pub is_as_plain : (t : Result ⊤ Refusal) (s : Option ℕ) (a : Result ℕ Refusal) → ((b : Refusal) → t ≡ Err b → r ≡ as_lent (Err b) rs ms cw cx) → (profile_reply (profile_tested t s) r rs ms cw cx).answer ≡ plainly a → profile_reply (profile_tested t s) r rs ms cw cx ≡ as_plain r
  unfolding profile_tested profile_reply plainly
  is_as_plain (Err b) s a h e = early-plain (Err b) s b refl (h b refl)
  is_as_plain (Ok _) (Some k) a h e = no_plain a e
  is_as_plain (Ok _) None a h e = refl

  -- and then the page is of the profile, if 1 to 4 pass
  pub plain_in : (t : Result ⊤ Refusal) (s : Option ℕ) (a : Result ℕ Refusal) → t ≡ Ok tt → (profile_reply (profile_tested t s) r rs ms cw cx).answer ≡ plainly a → s ≡ None
  unfolding profile_tested profile_reply plainly
  plain_in (Err b) s a p e = cc
  plain_in (Ok _) (Some k) a p e = no_plain a e
  plain_in (Ok _) None a p e = refl

  -- all as lent, but where the plain call wrote
  pub lent-unless : (t : Result ⊤ Refusal) (s : Option ℕ) → (t ≡ Ok tt → s ≡ None → r ≡ as_lent r.answer rs ms cw cx) → AllLent (profile_reply (profile_tested t s) r rs ms cw cx) rs ms cw cx
  unfolding profile_tested profile_reply plainly
  lent-unless (Err b) s h = refl
  lent-unless (Ok _) (Some k) h = refl
  lent-unless (Ok _) None h = ap as_plain (h refl refl)

pub lent_again : {r : Reply} {a : Result ℕ Refusal} {rs : List Float} {ms cw : List ℕ} {cx : List Float} → r ≡ as_lent a rs ms cw cx → r ≡ as_lent r.answer rs ms cw cx
lent_again {r} {a} {rs} {ms} {cw} {cx} e = e ∙ ap (λ (b : Result ℕ Refusal). as_lent b rs ms cw cx) (sym (ap (λ (x : Reply). x.answer) e))

pub same_answer : {r : Reply} {p : ProfileReply} {a : Result ℕ Refusal} → p ≡ as_plain r → p.answer ≡ plainly a → r.answer ≡ a
same_answer {r} {p} {a} e f = plain_answer r.answer a (sym (ap (λ (x : ProfileReply). x.answer) e) ∙ f)

-- ---- what refuses early refuses the plain call, with the same answer
then_refused : (a b c : Result ⊤ Refusal) (x : Refusal) → and_then a b ≡ Err x → and_then a (and_then b c) ≡ Err x
unfolding and_then
then_refused (Ok _) (Ok _) c x e = cc
then_refused (Ok _) (Err y) c x e = e
then_refused (Err y) b c x e = e

more_refused : (a b : Result ⊤ Refusal) (x : Refusal) → a ≡ Err x → and_then a b ≡ Err x
unfolding and_then
more_refused a b x e = rw e

then_pass : (a b c : Result ⊤ Refusal) → and_then a (and_then b c) ≡ Ok tt → and_then a b ≡ Ok tt
unfolding and_then
then_pass (Ok _) (Ok _) c e = refl
then_pass (Ok _) (Err y) c e = e
then_pass (Err y) b c e = e

lent_by : (u : Result ⊤ Refusal) (r : Reply) (a : Refusal) (rs : List Float) (ms cw : List ℕ) (cx : List Float) → u ≡ Err a → tested u r rs ms cw cx ≡ as_lent (Err a) rs ms cw cx
unfolding tested
lent_by u r a rs ms cw cx e = rw e

module _ (ws : List ℕ) (xs rs : List Float) (ms cw : List ℕ) (cx : List Float) (q : LayoutInput) where
  pub early-refuses : (a : Refusal) → early_tested ws xs rs ms q ≡ Err a → layout_tested ws xs rs ms cw cx q ≡ Err a
  unfolding early_tested layout_tested
  early-refuses a e = then_refused (refuse_if (bad_tables ws xs || bad_rows ws rs ms) Lengths) (page_tested ws xs q) (no5 ws xs cw cx) a e

  pub early-passes : layout_tested ws xs rs ms cw cx q ≡ Ok tt → early_tested ws xs rs ms q ≡ Ok tt
  unfolding early_tested layout_tested
  early-passes e = then_pass (refuse_if (bad_tables ws xs || bad_rows ws rs ms) Lengths) (page_tested ws xs q) (no5 ws xs cw cx) e

  pub layout-lent : (a : Refusal) → layout_tested ws xs rs ms cw cx q ≡ Err a → layout_result ws xs rs ms cw cx q ≡ as_lent (Err a) rs ms cw cx
  unfolding layout_result
  layout-lent a e = lent_by (layout_tested ws xs rs ms cw cx q) _ a rs ms cw cx e

  pub relayout-lent : (es : List ℕ) (a : Refusal) → relayout_tested ws xs rs ms cw cx es q ≡ Err a → relayout_result ws xs rs ms cw cx es q ≡ as_lent (Err a) rs ms cw cx
  unfolding relayout_result
  relayout-lent es a e = lent_by (relayout_tested ws xs rs ms cw cx es q) _ a rs ms cw cx e

  pub relayout-too : (es : List ℕ) (a : Refusal) → layout_tested ws xs rs ms cw cx q ≡ Err a → relayout_tested ws xs rs ms cw cx es q ≡ Err a
  unfolding relayout_tested
  relayout-too es a e = more_refused (layout_tested ws xs rs ms cw cx q) (and_then (no6 es (nodes_in ws)) (no7 ms)) a e

-- a plain refusal as the tests tell it
abbrev pub told : {T : Type 0} → Result T Refusal → Result ⊤ Refusal
told (Ok n) = Ok tt
told (Err a) = Err a

-- ---- a size question: a refusal of the plain calls is due early, or is the plain answer
pub size_cases : {C : Type 0} (t : Result ⊤ Refusal) (s : Option ℕ) (a : Result (Size Float) Refusal) (x : Refusal) → size_or (profile_tested t s) (plainly a) ≡ Err (Plain x) → (t ≡ Err x → C) → (t ≡ Ok tt → s ≡ None → a ≡ Err x → C) → C
unfolding profile_tested size_or plainly
size_cases (Err b) s a x e f g = f (ap told (plain_answer (Err b) (Err x) e))
size_cases (Ok _) (Some k) a x e f g = no_plain (Err x) e
size_cases (Ok _) None (Ok z) x e f g = g refl refl cc
size_cases (Ok _) None (Err b) x e f g = g refl refl (plain_answer (Err b) (Err x) e)
