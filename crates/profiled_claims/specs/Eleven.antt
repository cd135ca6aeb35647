-- 11 is given exactly if 1 to 4 are not due and the page or the question is not of the profile, at its place; and it leaves all as lent.
use Rattle.steps.specs.declared.Refusal.TheVariants.{Lengths}
use Rattle.steps.specs.declared.Refusal.{Refusal}
use Rattle.profiled.specs.declared.ProfileRefusal.TheVariants.{Outside}
use Rattle.profiled.specs.declared.ProfileRefusal.{ProfileRefusal}
use Rattle.geometry.specs.declared.Size.{Size}
use Rattle.std.specs.Prelude.{◌≡◌, refl, Bool, true, false, ◌||◌, List, ℕ, Float, Option, None, Some, Result, Ok, Err, ⊤}
use Rattle.std.proofs.Common.{sym, ◌∙◌, arith}
use Rattle.std.proofs.Math.Path.{ap}
use Rattle.std.proofs.lemmas.Bool.{not-false}
use Rattle.limits.specs.Bools.{or_left}
use Rattle.steps.specs.Scan.{first_of}
use Rattle.steps.specs.Page.{nodes_in}
use Rattle.steps.specs.Noes.{refuse_if, and_then, bad_tables, bad_rows, page_tested, size_tested}
use Rattle.steps.specs.declared.LayoutInput.{LayoutInput}
use Rattle.steps.specs.declared.RequestedAxis.{RequestedAxis}
use Rattle.steps.specs.Results.{size_result}
use Rattle.tables.specs.Refusals.{PageSound, SizeDue}
use Rattle.tables.proofs.Exactly.{Exactly, size-exactly}
use Rattle.tables.proofs.Passing.{then_pass_1, then_pass_2, if_pass}
use Rattle.tables.proofs.ScanLaws.{first-at, first-nowhere}
use Rattle.profile.specs.Profile.{of_profile, outside, whole_question, else_at, profile_spot}
use Rattle.profile.specs.Exact.{NodesIn, LowestOutside, node_no}
use Rattle.profile.proofs.Exact.{question_no}
use Rattle.tables.specs.Early.{early_tested}
use Rattle.profiled.specs.Profiled.{profile_tested, plainly, size_or, profiled_size_result, yes_by, yes_or_no}
use Rattle.profiled_claims.specs.Cases.{no_outside, one_place, refused_so}

-- the place of 11: the lowest node that is not of the profile; n if the question alone is not
pub data OutsideAt (ws : List ℕ) (xs : List Float) (q : LayoutInput) (k : ℕ) : Type 0 where
  of_node : LowestOutside ws xs k → OutsideAt ws xs q k
  of_question : NodesIn ws xs → whole_question q ≡ false → k ≡ nodes_in ws → OutsideAt ws xs q k

told_in : (ws : List ℕ) (xs : List Float) (i : ℕ) → outside ws xs i ≡ false → of_profile ws xs i ≡ true
unfolding outside
told_in ws xs i e = not-false (of_profile ws xs i) e

place_by : (ws : List ℕ) (xs : List Float) (q : LayoutInput) (k : ℕ) (s : Option ℕ) (b : Bool) → first_of (outside ws xs) (nodes_in ws) ≡ s → whole_question q ≡ b → else_at s b (nodes_in ws) ≡ Some k → OutsideAt ws xs q k
unfolding else_at
place_by ws xs q k (Some j) b e f h = of_node (first-at (outside ws xs) (nodes_in ws) k (e ∙ h))
place_by ws xs q k None true e f h =
    let z : ◌≡◌ {A = ℕ} 0 1 = cc in
    absurd (omega arith)
place_by ws xs q k None false e f h =
    let z : nodes_in ws ≡ k = cc in
    of_question (λ i l. told_in ws xs i (first-nowhere (outside ws xs) (nodes_in ws) e i l)) f (sym z)

pub place_is : (ws : List ℕ) (xs : List Float) (q : LayoutInput) (k : ℕ) → Exactly (profile_spot ws xs q ≡ Some k) (OutsideAt ws xs q k)
unfolding profile_spot
place_is ws xs q k = record { only = λ e. place_by ws xs q k (first_of (outside ws xs) (nodes_in ws)) (whole_question q) refl refl e; given = back }
  where
    back : OutsideAt ws xs q k → profile_spot ws xs q ≡ Some k
    back (of_node l) = node_no ws xs q k l
    back (of_question h e p) = question_no ws xs q h e ∙ ap Some (sym p)

-- 1 to 4 are not due
pub record EarlySound (ws : List ℕ) (xs rs : List Float) (ms : List ℕ) (q : LayoutInput) : Type 0 where
  pub lengths : (bad_tables ws xs || bad_rows ws rs ms) ≡ false
  pub page : PageSound ws xs q

both_pass : (ws : List ℕ) (xs : List Float) (q : LayoutInput) → bad_tables ws xs ≡ false → page_tested ws xs q ≡ Ok tt → size_tested ws xs q ≡ Ok tt
unfolding size_tested and_then
both_pass ws xs q b e = rw (b, e)

page_passed : (ws : List ℕ) (xs : List Float) (q : LayoutInput) → size_tested ws xs q ≡ Ok tt → page_tested ws xs q ≡ Ok tt
unfolding size_tested
page_passed ws xs q e = then_pass_2 (refuse_if (bad_tables ws xs) Lengths) (page_tested ws xs q) e

page_sound : (ws : List ℕ) (xs : List Float) (q : LayoutInput) → bad_tables ws xs ≡ false → page_tested ws xs q ≡ Ok tt → PageSound ws xs q
page_sound ws xs q b e = ((size-exactly ws xs q (Ok tt)).only (both_pass ws xs q b e)).1

sound_page : (ws : List ℕ) (xs : List Float) (q : LayoutInput) → bad_tables ws xs ≡ false → PageSound ws xs q → page_tested ws xs q ≡ Ok tt
sound_page ws xs q b s = page_passed ws xs q ((size-exactly ws xs q (Ok tt)).given (b, s))

pub early_exactly : (ws : List ℕ) (xs rs : List Float) (ms : List ℕ) (q : LayoutInput) → Exactly (early_tested ws xs rs ms q ≡ Ok tt) (EarlySound ws xs rs ms q)
unfolding early_tested and_then
early_exactly ws xs rs ms q = record { only = there; given = back }
  where
    there : early_tested ws xs rs ms q ≡ Ok tt → EarlySound ws xs rs ms q
    there e =
        let b = if_pass (bad_tables ws xs || bad_rows ws rs ms) Lengths (then_pass_1 (refuse_if (bad_tables ws xs || bad_rows ws rs ms) Lengths) (page_tested ws xs q) e) in
        record { lengths = b; page = page_sound ws xs q (or_left (bad_tables ws xs) _ b) (then_pass_2 (refuse_if (bad_tables ws xs || bad_rows ws rs ms) Lengths) (page_tested ws xs q) e) }

    back : EarlySound ws xs rs ms q → early_tested ws xs rs ms q ≡ Ok tt
    back s = rw (s.lengths, sound_page ws xs q (or_left (bad_tables ws xs) _ s.lengths) s.page)

-- ---- the yes or no, and the size question
no_by : (t : Result ⊤ Refusal) (s : Option ℕ) (k : ℕ) → yes_by (profile_tested t s) ≡ Err (Outside k) → (t ≡ Ok tt) × (s ≡ Some k)
unfolding profile_tested yes_by plainly
no_by (Err a) s k e = no_outside {T = ℕ} (Err a) e
no_by (Ok _) (Some j) k e = (refl, ap Some (one_place (refused_so e)))
no_by (Ok _) None k e = no_outside {T = ℕ} (Ok 0) e

by_no : (t : Result ⊤ Refusal) (s : Option ℕ) (k : ℕ) → t ≡ Ok tt → s ≡ Some k → yes_by (profile_tested t s) ≡ Err (Outside k)
unfolding profile_tested yes_by
by_no t s k e f = rw (e, f)

by_size : (t : Result ⊤ Refusal) (s : Option ℕ) (k : ℕ) (z : Result (Size Float) ProfileRefusal) → t ≡ Ok tt → s ≡ Some k → size_or (profile_tested t s) z ≡ Err (Outside k)
unfolding profile_tested size_or
by_size t s k z e f = rw (e, f)

size_by : (t : Result ⊤ Refusal) (s : Option ℕ) (k : ℕ) (a : Result (Size Float) Refusal) → size_or (profile_tested t s) (plainly a) ≡ Err (Outside k) → (t ≡ Ok tt) × (s ≡ Some k)
unfolding profile_tested size_or plainly
size_by (Err b) s k a e = no_outside {T = Size Float} (Err b) e
size_by (Ok _) (Some j) k a e = (refl, ap Some (one_place (refused_so e)))
size_by (Ok _) None k (Ok z) e = (refl, cc)
size_by (Ok _) None k (Err b) e = no_outside {T = Size Float} (Err b) e

module _ (ws : List ℕ) (xs : List Float) (q : LayoutInput) (k : ℕ) where
  pub no-eleven : Exactly (yes_or_no ws xs q ≡ Err (Outside k)) (SizeDue ws xs q (Ok tt) × OutsideAt ws xs q k)
  unfolding yes_or_no
  no-eleven =
      record {
        only = λ e. (let z = no_by (size_tested ws xs q) (profile_spot ws xs q) k e in ((size-exactly ws xs q (Ok tt)).only z.0, (place_is ws xs q k).only z.1));
        given = λ g. by_no (size_tested ws xs q) (profile_spot ws xs q) k ((size-exactly ws xs q (Ok tt)).given g.0) ((place_is ws xs q k).given g.1);
      }

  pub size-eleven : (a : RequestedAxis) → Exactly (profiled_size_result ws xs q a ≡ Err (Outside k)) (SizeDue ws xs q (Ok tt) × OutsideAt ws xs q k)
  unfolding profiled_size_result
  size-eleven a =
      record {
        only = λ e. (let z = size_by (size_tested ws xs q) (profile_spot ws xs q) k (size_result ws xs q a) e in ((size-exactly ws xs q (Ok tt)).only z.0, (place_is ws xs q k).only z.1));
        given = λ g. by_size (size_tested ws xs q) (profile_spot ws xs q) k (plainly (size_result ws xs q a)) ((size-exactly ws xs q (Ok tt)).given g.0) ((place_is ws xs q k).given g.1);
      }
