-- The yes exactly; and 11 from C, by the number and place in the word that a call returns.
use Rattle.steps.specs.declared.Refusal.{Refusal}
use Rattle.profiled.specs.declared.ProfileRefusal.TheVariants.{Plain, Outside}
use Rattle.profiled.specs.declared.ProfileRefusal.{ProfileRefusal}
use Rattle.std.specs.Prelude.{◌≡◌, refl, true, List, ℕ, Float, Option, None, Some, Result, Ok, Err, ⊤}
use Rattle.std.proofs.Common.{sym, ap, ◌∙◌, subst, arith}
use Rattle.steps.specs.Noes.{size_tested}
use Rattle.answers.specs.Settled.{refusal_from_nine}
use Rattle.steps.specs.declared.LayoutInput.{LayoutInput}
use Rattle.tables.specs.Refusals.{SizeDue}
use Rattle.tables.proofs.Exactly.{Exactly, size-exactly}
use Rattle.profile.specs.Profile.{whole_question, profile_spot}
use Rattle.profile.specs.Exact.{NodesIn, yes_told, told_yes}
use Rattle.profiled.specs.Profiled.{profile_paper, profile_tested, yes_by, yes_or_no, no_paper}
use Rattle.asked.specs.Halves.{Halves}
use Rattle.profiled_claims.specs.Cases.{no_plain, plain_answer}
use Rattle.profiled_claims.specs.Eleven.{OutsideAt, no-eleven}

-- ---- the yes
err_ok : {a : ProfileRefusal} {n : ℕ} → ◌≡◌ {A = Result ℕ ProfileRefusal} (Err a) (Ok n) → ⊥
err_ok e =
    let z : ◌≡◌ {A = ℕ} 0 1 = cc in
    omega arith

yes_by_lem : {C : Type 0} (t : Result ⊤ Refusal) (s : Option ℕ) → yes_by (profile_tested t s) ≡ Ok 0 → (t ≡ Ok tt → s ≡ None → C) → C
unfolding profile_tested yes_by
yes_by_lem (Err a) s e g = absurd (err_ok e)
yes_by_lem (Ok _) (Some k) e g = absurd (err_ok e)
yes_by_lem (Ok _) None e g = g refl refl

by_yes : (t : Result ⊤ Refusal) (s : Option ℕ) → t ≡ Ok tt → s ≡ None → yes_by (profile_tested t s) ≡ Ok 0
unfolding profile_tested yes_by
by_yes t s e f = rw (e, f)

-- 0 exactly if a size question passes its tests, and every node and the question are of the profile
pub yes_exactly : (ws : List ℕ) (xs : List Float) (q : LayoutInput) → Exactly (yes_or_no ws xs q ≡ Ok 0) (SizeDue ws xs q (Ok tt) × (NodesIn ws xs × (whole_question q ≡ true)))
unfolding yes_or_no
yes_exactly ws xs q =
    record {
      only = λ e. yes_by_lem (size_tested ws xs q) (profile_spot ws xs q) e (λ t s. ((size-exactly ws xs q (Ok tt)).only t, yes_told ws xs q s));
      given = λ g. by_yes (size_tested ws xs q) (profile_spot ws xs q) ((size-exactly ws xs q (Ok tt)).given g.0) (told_yes ws xs q g.1.0 g.1.1);
    }

-- ---- from C
one_pair : (p s : ℕ × ℕ) (r : ℕ) → Halves p r → Halves s r → p ≡ s
one_pair p s r h k =
    let n : p.0 ≡ s.0 = sym h.number_is ∙ k.number_is in
    let m : p.1 ≡ s.1 = sym h.place_is ∙ k.place_is in
    λ i. (n i, m i)

outside_paper : (a : Result ℕ ProfileRefusal) (k : ℕ) → profile_paper a ≡ (11, k) → a ≡ Err (Outside k)
unfolding profile_paper no_paper
outside_paper (Ok n) k e =
    let z = ap (λ (p : ℕ × ℕ). p.0) e in
    absurd (omega arith)
outside_paper (Err (Plain b)) k e = absurd (refusal_from_nine b _ _ (omega arith) e)
outside_paper (Err (Outside j)) k e = ap (λ (i : ℕ). Err (Outside i)) (ap (λ (p : ℕ × ℕ). p.1) e)

paper_outside : (a : Result ℕ ProfileRefusal) (k : ℕ) → a ≡ Err (Outside k) → profile_paper a ≡ (11, k)
unfolding profile_paper no_paper
paper_outside a k e = rw e

pub by_word : {G : Type 0} (a : Result ℕ ProfileRefusal) (k r : ℕ) → Halves (profile_paper a) r → Exactly (a ≡ Err (Outside k)) G → Exactly (Halves (11, k) r) G
by_word a k r h e =
    record {
      only = λ w. e.only (outside_paper a k (one_pair (profile_paper a) (11, k) r h w));
      given = λ g. subst (λ (p : ℕ × ℕ). Halves p r) (paper_outside a k (e.given g)) h;
    }

pub c_no_eleven : (ws : List ℕ) (xs : List Float) (q : LayoutInput) (k r : ℕ) → Halves (profile_paper (yes_or_no ws xs q)) r → Exactly (Halves (11, k) r) (SizeDue ws xs q (Ok tt) × OutsideAt ws xs q k)
c_no_eleven ws xs q k r h = by_word _ k r h (no-eleven ws xs q k)
