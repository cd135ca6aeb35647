-- Halving over what an index keeps is the search word for word: for bottoms of any make, NaN among them, the first position whose bottom is a greater number than y, and none exactly if there is none.
use Rattle.scroll.specs.declared.ScrollRefusal.TheVariants.{NotFinite}
use Rattle.std.specs.Prelude.{Option, Result, Ok, Err, Some, None}
use Rattle.scroll.specs.declared.ScrollRefusal.{ScrollRefusal}
use mathlib.Core.Path.{◌≡◌, refl, sym, ap, subst, ◌∙◌}
use mathlib.Core.Bool.{Bool, true, false, cond, not, ◌&&◌, beq, true≢false}
use mathlib.Core.List.{List}
use Prim.Native.Nat.{ℕ, ◌+◌, ◌*◌, ◌<◌, ◌≤◌}
use native.Mathlib.Omega.{arith}
use lib.ListN.{length}
use lib.Dec.{ltb, eqb}
use lib.Ieee.{Float, nan, inf, fin, up, down, below, level, lt, le, eq, is_nan, of_bits}
use borrow.Author.Tests.{ltb-true, ltb-false, le-ltb, eqb-true}
use Rattle.limits.specs.Limits.{in_range}
use Rattle.limits.specs.Bools.{and_fst, and_snd}
use Rattle.util.specs.Order.{lt_asym}
use Rattle.scroll.specs.Running.{lowest_f, highest_f, running_of}
use Rattle.scroll.specs.Halving.{First, beyond, halved}
use Rattle.scroll.specs.Scroll.{is_finite, position, scroll_answer, ScrollDue}
use Rattle.scroll.proofs.HalvingLaws.{finds}
use Rattle.scroll.proofs.RunningLaws.{length_running, keeps, reaches, needs-one}

lowest_number : is_nan lowest_f ≡ false
unfolding is_nan of_bits
lowest_number = refl

-- one place in the line
level_not_below : (s : Bool) (a : ℕ) (t : Bool) (b : ℕ) → level s a t b ≡ true → below t b s a ≡ false
level_not_below false a false b e = let q = eqb-true a b (and_fst (eqb a b) _ e) in le-ltb b a (omega arith)
level_not_below false a true b e =
    let q = eqb-true a b (and_fst (eqb a b) _ e) in
    let z = eqb-true a 0 (and_snd (eqb a b) _ e) in
    le-ltb 0 (b + a) (omega arith)
level_not_below true a false b e = refl
level_not_below true a true b e = let q = eqb-true a b (and_fst (eqb a b) _ e) in le-ltb a b (omega arith)

same_sign : (s t : Bool) → beq s t ≡ true → t && not s ≡ false
same_sign true true e = refl
same_sign true false e = refl
same_sign false true e = sym e
same_sign false false e = refl

equal_not_less : (a b : Float) → eq a b ≡ true → lt b a ≡ false
unfolding eq lt
equal_not_less nan b e = cc
equal_not_less (inf s) nan e = refl
equal_not_less (inf s) (inf t) e = same_sign s t e
equal_not_less (inf s) (fin t n d) e = cc
equal_not_less (fin s m g) nan e = refl
equal_not_less (fin s m g) (inf t) e = cc
equal_not_less (fin s m g) (fin t n d) e = level_not_below s (m * up g * down d) t (n * up d * down g) e

not_over : (a b : Float) → le a b ≡ true → lt b a ≡ false
unfolding le
not_over a b e = go (lt a b) refl
  where
    go : (t : Bool) → lt a b ≡ t → lt b a ≡ false
    go true q = lt_asym a b q
    go false q = equal_not_less a b (rw q at e)

-- no finite number is below the lowest
pub above_lowest : (y : Float) → is_finite y ≡ true → lt y lowest_f ≡ false
unfolding is_finite in_range
above_lowest y e = not_over lowest_f y (and_fst (le lowest_f y) (le y highest_f) e)

-- the first match of the running largest is that of the bottoms
same_first : (bs : List Float) (y : Float) (k : ℕ) → lt y lowest_f ≡ false → First (beyond (running_of bs) y) (length bs) k → First (beyond bs y) (length bs) k
same_first bs y k low f =
    record {
      within = f.within;
      before = λ j h. none j h (beyond bs y j) refl;
      here = λ h. one h (beyond bs y k) refl;
    }
  where
    none : (j : ℕ) → j < k → (b : Bool) → beyond bs y j ≡ b → beyond bs y j ≡ false
    none j h true e = absurd (true≢false (sym (reaches y lowest_f bs lowest_number j (let w = f.within in omega arith) e) ∙ f.before j h))
    none j h false e = e

    all : beyond bs y k ≡ false → (j : ℕ) → j ≤ k → (b : Bool) → ltb j k ≡ b → beyond bs y j ≡ false
    all e j h true q = none j (ltb-true j k q) (beyond bs y j) refl
    all e j h false q =
        let g = ltb-false j k q in
        let z : j ≡ k = omega arith in
        rw z e

    one : k < length bs → (b : Bool) → beyond bs y k ≡ b → beyond bs y k ≡ true
    one h true e = e
    one h false e = absurd (true≢false (sym (f.here h) ∙ needs-one y lowest_f bs lowest_number low k h (λ j g. all e j g (ltb j k) refl)))

-- where halving ends, over the running largest of any bottoms
pub halving_first : (bs : List Float) (y : Float) → is_finite y ≡ true → First (beyond bs y) (length bs) (halved (beyond (running_of bs) y) (length (running_of bs)) 0 (length (running_of bs)))
halving_first bs y e =
    let l : length (running_of bs) ≡ length bs = length_running lowest_f bs in
    rw l (same_first bs y _ (above_lowest y e) (finds (beyond (running_of bs) y) (length bs) (keeps y lowest_f bs lowest_number)))

-- each answer with what it is given for
holds : (bs : List Float) (y : Float) (k : ℕ) → is_finite y ≡ true → First (beyond bs y) (length bs) k → (b : Bool) → ltb k (length bs) ≡ b → ScrollDue bs y (cond b (Ok (Some k)) (Ok None))
holds bs y k e f true q = let l = ltb-true k (length bs) q in (e, l, f.here l, f.before)
holds bs y k e f false q = let l = ltb-false k (length bs) q in (e, λ j h. f.before j (omega arith))

due : (bs : List Float) (y : Float) (b : Bool) → is_finite y ≡ b → ScrollDue bs y (scroll_answer (running_of bs) y)
unfolding scroll_answer position
due bs y true e =
    let l : length (running_of bs) ≡ length bs = length_running lowest_f bs in
    let f = halving_first bs y e in
    rw (e, l) (rw l at (holds bs y _ e f (ltb _ (length bs)) refl))
due bs y false e = rw e e

-- no two answers are due
one_due : (bs : List Float) (y : Float) (a b : Result (Option ℕ) ScrollRefusal) → ScrollDue bs y a → ScrollDue bs y b → a ≡ b
one_due bs y (Err NotFinite) (Err NotFinite) h g = refl
one_due bs y (Err NotFinite) (Ok None) h g = absurd (true≢false (sym g.0 ∙ h))
one_due bs y (Err NotFinite) (Ok (Some k)) h g = absurd (true≢false (sym g.0 ∙ h))
one_due bs y (Ok None) (Err NotFinite) h g = absurd (true≢false (sym h.0 ∙ g))
one_due bs y (Ok None) (Ok None) h g = refl
one_due bs y (Ok None) (Ok (Some k)) h g = absurd (true≢false (sym g.2 ∙ h.1 k g.1))
one_due bs y (Ok (Some k)) (Err NotFinite) h g = absurd (true≢false (sym h.0 ∙ g))
one_due bs y (Ok (Some k)) (Ok None) h g = absurd (true≢false (sym h.2 ∙ g.1 k h.1))
one_due bs y (Ok (Some j)) (Ok (Some k)) h g = ap (λ i. Ok (Some i)) (same (ltb j k) (ltb k j) refl refl)
  where
    same : (b c : Bool) → ltb j k ≡ b → ltb k j ≡ c → j ≡ k
    same true c p q = absurd (true≢false (sym h.2 ∙ g.3 j (ltb-true j k p)))
    same false true p q = absurd (true≢false (sym g.2 ∙ h.3 k (ltb-true k j q)))
    same false false p q = let a = ltb-false j k p in let b = ltb-false k j q in omega arith

-- over what make_index left, each answer is given exactly if it is due
pub scroll_exactly : (bs : List Float) (y : Float) (a : Result (Option ℕ) ScrollRefusal) → (scroll_answer (running_of bs) y ≡ a → ScrollDue bs y a) × (ScrollDue bs y a → scroll_answer (running_of bs) y ≡ a)
scroll_exactly bs y a =
    let d = due bs y (is_finite y) refl in
    (λ e. subst (ScrollDue bs y) e d, λ h. one_due bs y (scroll_answer (running_of bs) y) a d h)
