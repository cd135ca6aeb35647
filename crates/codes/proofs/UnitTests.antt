-- Test 3 of the units by four masks: each finds its fields, and together they leave none out.
use mathlib.Core.Path.{◌≡◌, refl, sym, ap, ◌∙◌}
use mathlib.Core.Bool.{Bool, true, false, not, ◌&&◌, ◌||◌}
use Prim.Native.Nat.{ℕ, ◌+◌, ◌*◌, ◌-◌, ◌/◌, ◌%◌, ◌^◌, ◌<◌, ◌≤◌}
use native.Mathlib.Nat.{div-div-eq-div-mul}
use native.Mathlib.Omega.{arith}
use lib.Dec.{eqb, ltb, leb}
use lib.Pow.{pow-add}
use lib.Bits.{bit_and, bit_or}
use borrow.Author.Tests.{lt-ltb, le-leb, ltb-true, ltb-false, leb-true}
use Rattle.limits.specs.Bools.{and_false}
use Rattle.style.specs.Codes.{code_at, unit_of}
use Rattle.style.specs.Units.{unit_first, unit_second}
use Rattle.steps.specs.Scan.{some}
use Rattle.steps.specs.Noes.{no_auto, bad_unit}
use Rattle.scans.specs.Scans.{or_yes, is_some_lem, some_is, not_some, is_none, never}
use Rattle.scans.specs.UnitMasks.{threes, zeros}

not_true : (b : Bool) → not b ≡ false → b ≡ true
not_true true e = refl
not_true false e = never e

not_false : (b : Bool) → not b ≡ true → b ≡ false
not_false true e = never (sym e)
not_false false e = refl

-- ---- one unit

three_bad : (f unit : ℕ) → eqb unit 3 ≡ true → bad_unit f unit ≡ true
unfolding bad_unit
three_bad f unit e = rw (e)

auto_bad : (f unit : ℕ) → 10 ≤ f → f < 18 → eqb unit 0 ≡ true → bad_unit f unit ≡ true
unfolding bad_unit no_auto
auto_bad f unit l h e = rw (e, le-leb 10 f l, lt-ltb f 18 h) (or_yes (eqb unit 3))

-- neither three, nor auto where it counts
unit_good : (f unit : ℕ) → eqb unit 3 ≡ false → (10 ≤ f → f < 18 → eqb unit 0 ≡ false) → bad_unit f unit ≡ false
unfolding bad_unit no_auto
unit_good f unit e g = rw (e) (go (leb 10 f) refl (ltb f 18) refl)
  where
    go : (a : Bool) → leb 10 f ≡ a → (b : Bool) → ltb f 18 ≡ b → (eqb unit 0 && (a && b)) ≡ false
    go true p true q = rw (g (leb-true 10 f p) (ltb-true f 18 q))
    go true p false q = and_false (eqb unit 0)
    go false p b q = and_false (eqb unit 0)

module _ (u v : ℕ) where
  -- a field of the first word, of the second, and of the first from field 10 on
  in-first : (f : ℕ) → f < 14 → code_at u f ≡ unit_of u v f
  in-first f h = unit_first u v f h

  in-second : (k : ℕ) → code_at v k ≡ unit_of u v (14 + k)
  in-second k =
      let e : 14 + k - 14 ≡ k = omega arith in
      ap (code_at v) (sym e) ∙ unit_second u v (14 + k) (omega arith)

  from-ten : (k : ℕ) → code_at (u / 2 ^ 20) k ≡ code_at u (10 + k)
  from-ten k =
      let e : 20 + 2 * k ≡ 2 * (10 + k) = omega arith in
      ap (λ (x : ℕ). x % 4) (div-div-eq-div-mul u (2 ^ 20) (2 ^ (2 * k)) ∙ ap (λ (x : ℕ). u / x) (sym (pow-add 2 20 (2 * k)) ∙ ap (λ (x : ℕ). 2 ^ x) e))

  abbrev bad : ℕ → Bool
  bad f = bad_unit f (unit_of u v f)

  -- ---- each mask that hits finds a field

  pub first_three : eqb (bit_and (bit_and u (u / 2)) 0x0555_5555) 0 ≡ false → true ≡ some bad 22
  first_three e =
      let t = is_some_lem (λ f. eqb (code_at u f) 3) 14 (not_true (some (λ f. eqb (code_at u f) 3) 14) (sym (threes 14 u) ∙ e)) in
      let w = t.within in
      sym (some_is bad 22 t.place (omega arith) (three_bad t.place _ (ap (λ (x : ℕ). eqb x 3) (sym (in-first t.place w)) ∙ t.takes)))

  pub second-three : eqb (bit_and (bit_and v (v / 2)) 0x5555) 0 ≡ false → true ≡ some bad 22
  second-three e =
      let t = is_some_lem (λ f. eqb (code_at v f) 3) 8 (not_true (some (λ f. eqb (code_at v f) 3) 8) (sym (threes 8 v) ∙ e)) in
      let w = t.within in
      sym (some_is bad 22 (14 + t.place) (omega arith) (three_bad (14 + t.place) _ (ap (λ (x : ℕ). eqb x 3) (sym (in-second t.place)) ∙ t.takes)))

  pub first-auto : eqb (bit_and (bit_or (u / 2 ^ 20) (u / 2 ^ 20 / 2)) 0x55) 0x55 ≡ false → true ≡ some bad 22
  first-auto e =
      let t = is_some_lem (λ f. eqb (code_at (u / 2 ^ 20) f) 0) 4 (not_true (some (λ f. eqb (code_at (u / 2 ^ 20) f) 0) 4) (sym (zeros 4 (u / 2 ^ 20)) ∙ e)) in
      let w = t.within in
      sym (some_is bad 22 (10 + t.place) (omega arith) (auto_bad (10 + t.place) _ (omega arith) (omega arith) (ap (λ (x : ℕ). eqb x 0) (sym (in-first (10 + t.place) (omega arith)) ∙ sym (from-ten t.place)) ∙ t.takes)))

  second-auto : eqb (bit_and (bit_or v (v / 2)) 0x55) 0x55 ≡ false → some bad 22 ≡ true
  second-auto e =
      let t = is_some_lem (λ f. eqb (code_at v f) 0) 4 (not_true (some (λ f. eqb (code_at v f) 0) 4) (sym (zeros 4 v) ∙ e)) in
      let w = t.within in
      some_is bad 22 (14 + t.place) (omega arith) (auto_bad (14 + t.place) _ (omega arith) (omega arith) (ap (λ (x : ℕ). eqb x 0) (sym (in-second t.place)) ∙ t.takes))

  -- ---- and where none hits there is none

  module _ (a : eqb (bit_and (bit_and u (u / 2)) 0x0555_5555) 0 ≡ true) (b : eqb (bit_and (bit_and v (v / 2)) 0x5555) 0 ≡ true) (c : eqb (bit_and (bit_or (u / 2 ^ 20) (u / 2 ^ 20 / 2)) 0x55) 0x55 ≡ true) (d : eqb (bit_and (bit_or v (v / 2)) 0x55) 0x55 ≡ true) where
    low : (f : ℕ) → f < 14 → bad f ≡ false
    low f h = unit_good f _ (ap (λ (x : ℕ). eqb x 3) (sym (in-first f h)) ∙ not_some (λ k. eqb (code_at u k) 3) 14 (not_false _ (sym (threes 14 u) ∙ a)) f h) auto
      where
        auto : 10 ≤ f → f < 18 → eqb (unit_of u v f) 0 ≡ false
        auto l g =
            let e : 10 + (f - 10) ≡ f = omega arith in
            ap (λ (x : ℕ). eqb x 0) (sym (in-first f h) ∙ ap (code_at u) (sym e) ∙ sym (from-ten (f - 10))) ∙ not_some (λ k. eqb (code_at (u / 2 ^ 20) k) 0) 4 (not_false _ (sym (zeros 4 (u / 2 ^ 20)) ∙ c)) (f - 10) (omega arith)

    high : (f : ℕ) → 14 ≤ f → f < 22 → bad f ≡ false
    high f l h = unit_good f _ (ap (λ (x : ℕ). eqb x 3) at ∙ not_some (λ k. eqb (code_at v k) 3) 8 (not_false _ (sym (threes 8 v) ∙ b)) (f - 14) (omega arith)) auto
      where
        at : unit_of u v f ≡ code_at v (f - 14)
        at = sym (unit_second u v f l)

        auto : 10 ≤ f → f < 18 → eqb (unit_of u v f) 0 ≡ false
        auto k g = ap (λ (x : ℕ). eqb x 0) at ∙ not_some (λ k. eqb (code_at v k) 0) 4 (not_false _ (sym (zeros 4 v) ∙ d)) (f - 14) (omega arith)

    no-bad-unit : some bad 22 ≡ false
    no-bad-unit = is_none bad (λ _. true) false 22 0 (λ j l h. go j h (ltb j 14) refl)
      where
        go : (j : ℕ) → j < 0 + 22 → (t : Bool) → ltb j 14 ≡ t → bad j ≡ false
        go j h true e = low j (ltb-true j 14 e)
        go j h false e = high j (ltb-false j 14 e) (omega arith)

  -- the last mask settles it
  pub last-mask : eqb (bit_and (bit_and u (u / 2)) 0x0555_5555) 0 ≡ true → eqb (bit_and (bit_and v (v / 2)) 0x5555) 0 ≡ true → eqb (bit_and (bit_or (u / 2 ^ 20) (u / 2 ^ 20 / 2)) 0x55) 0x55 ≡ true → not (eqb (bit_and (bit_or v (v / 2)) 0x55) 0x55) ≡ some bad 22
  last-mask a b c = go (eqb (bit_and (bit_or v (v / 2)) 0x55) 0x55) refl
    where
      go : (t : Bool) → eqb (bit_and (bit_or v (v / 2)) 0x55) 0x55 ≡ t → not t ≡ some bad 22
      go true e = sym (no-bad-unit a b c e)
      go false e = sym (second-auto e)
