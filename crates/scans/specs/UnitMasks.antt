-- All units of a word by one mask: some field has both of its bits, some field has none. Assumes nothing.
use Rattle.std.specs.Prelude.{◌≡◌, refl, Bool, true, false, not, ◌&&◌, ◌||◌, ℕ, zero, suc, ◌+◌, ◌*◌, ◌/◌, ◌%◌, ◌^◌, ◌<◌, eqb}
use Rattle.std.proofs.Common.{sym, ap, ap₂, ◌∙◌, div-add-mod', div-one, mod-lt, zero-lt-suc, arith, pow-add, eq-eqb, ne_eqb, eqb-true}
use Rattle.std.proofs.Math.Nat.{div-div-eq-div-mul}
use Rattle.std.specs.Int.Bits.{bit_and, bit_or, and_zero_r}
use Rattle.std.proofs.lemmas.Nat.{and_block, and_shr, and_mod, or_shr, or_mod, or_lt, and_mask}
use Rattle.std.proofs.lemmas.Bool.{eqb-false}
use Rattle.style.specs.Codes.{code_at}
use Rattle.steps.specs.Scan.{scan, some}
use Rattle.scans.specs.Scans.{none_left, next-no, next-yes}

-- the lower bit of each of k pairs
abbrev pub pairs : ℕ → ℕ
pairs zero = 0
pairs (suc k) = pairs k * 4 + 1

-- ---- the lowest pair apart

-- a mask of pairs looks at the lowest bit, and then two places on
pub mask_step : (x m : ℕ) → bit_and x (m * 4 + 1) ≡ bit_and (x / 4) m * 4 + x % 2
mask_step x m =
    ap (λ (y : ℕ). bit_and y (m * 4 + 1)) (sym (div-add-mod' x 4))
    ∙ and_block 2 (x / 4) m (x % 4) 1 (mod-lt x (zero-lt-suc 3)) (omega arith)
    ∙ ap (λ (y : ℕ). bit_and (x / 4) m * 4 + y) (and_mask (x % 4) 1 ∙ low x)
  where
    low : (y : ℕ) → y % 4 % 2 ≡ y % 2
    low y = omega arith

-- a bit or two places on is two places on and a bit
pub turned : (u : ℕ) → u / 2 / 4 ≡ u / 4 / 2
turned u = omega arith

both_step : (u m : ℕ) → bit_and (bit_and u (u / 2)) (m * 4 + 1) ≡ bit_and (bit_and (u / 4) (u / 4 / 2)) m * 4 + bit_and (u % 2) (u / 2 % 2)
both_step u m =
    mask_step (bit_and u (u / 2)) m
    ∙ ap₂ (λ (y z : ℕ). bit_and y m * 4 + z) (and_shr u (u / 2) 2 ∙ ap (bit_and (u / 4)) (turned u)) (and_mod u (u / 2) 1)

either_step : (u m : ℕ) → bit_and (bit_or u (u / 2)) (m * 4 + 1) ≡ bit_and (bit_or (u / 4) (u / 4 / 2)) m * 4 + bit_or (u % 2) (u / 2 % 2)
either_step u m =
    mask_step (bit_or u (u / 2)) m
    ∙ ap₂ (λ (y z : ℕ). bit_and y m * 4 + z) (or_shr u (u / 2) 2 ∙ ap (bit_or (u / 4)) (turned u)) (or_mod u (u / 2) 1)

-- ---- the lowest pair itself

both_bits : (a b : ℕ) → a < 2 → b < 2 → eqb (bit_and a b) 0 ≡ not (eqb (b * 2 + a) 3)
both_bits zero zero h g = refl
both_bits zero (suc zero) h g = refl
both_bits (suc zero) zero h g = refl
both_bits (suc zero) (suc zero) h g = refl
both_bits (suc (suc a)) b h g = absurd (omega arith)
both_bits zero (suc (suc b)) h g = absurd (omega arith)
both_bits (suc zero) (suc (suc b)) h g = absurd (omega arith)

either_bits : (a b : ℕ) → a < 2 → b < 2 → eqb (bit_or a b) 1 ≡ not (eqb (b * 2 + a) 0)
either_bits zero zero h g = refl
either_bits zero (suc zero) h g = refl
either_bits (suc zero) zero h g = refl
either_bits (suc zero) (suc zero) h g = refl
either_bits (suc (suc a)) b h g = absurd (omega arith)
either_bits zero (suc (suc b)) h g = absurd (omega arith)
either_bits (suc zero) (suc (suc b)) h g = absurd (omega arith)

pair_is : (u : ℕ) → u / 2 % 2 * 2 + u % 2 ≡ u % 4
pair_is u = omega arith

both_low : (u : ℕ) → eqb (bit_and (u % 2) (u / 2 % 2)) 0 ≡ not (eqb (u % 4) 3)
both_low u =
    both_bits (u % 2) (u / 2 % 2) (mod-lt u (zero-lt-suc 1)) (mod-lt (u / 2) (zero-lt-suc 1)) ∙ ap (λ (x : ℕ). not (eqb x 3)) (pair_is u)

either_low : (u : ℕ) → eqb (bit_or (u % 2) (u / 2 % 2)) 1 ≡ not (eqb (u % 4) 0)
either_low u =
    either_bits (u % 2) (u / 2 % 2) (mod-lt u (zero-lt-suc 1)) (mod-lt (u / 2) (zero-lt-suc 1)) ∙ ap (λ (x : ℕ). not (eqb x 0)) (pair_is u)

-- ---- all pairs

none_of : (a c : ℕ) → eqb (a * 4 + c) 0 ≡ (eqb a 0 && eqb c 0)
none_of a c = go (eqb a 0) refl (eqb c 0) refl
  where
    go : (s : Bool) → eqb a 0 ≡ s → (t : Bool) → eqb c 0 ≡ t → eqb (a * 4 + c) 0 ≡ (s && t)
    go true e true d =
        let z : a ≡ 0 = eqb-true a 0 e in
        let y : c ≡ 0 = eqb-true c 0 d in
        eq-eqb (a * 4 + c) 0 (omega arith)
    go true e false d =
        let y : c ≡ 0 → ⊥ = eqb-false c 0 d in
        ne_eqb (a * 4 + c) 0 (λ (h : a * 4 + c ≡ 0). y (omega arith))
    go false e t d =
        let y : a ≡ 0 → ⊥ = eqb-false a 0 e in
        ne_eqb (a * 4 + c) 0 (λ (h : a * 4 + c ≡ 0). y (omega arith))

all_of : (a m c : ℕ) → c < 2 → eqb (a * 4 + c) (m * 4 + 1) ≡ (eqb a m && eqb c 1)
all_of a m c l = go (eqb a m) refl (eqb c 1) refl
  where
    go : (s : Bool) → eqb a m ≡ s → (t : Bool) → eqb c 1 ≡ t → eqb (a * 4 + c) (m * 4 + 1) ≡ (s && t)
    go true e true d =
        let z : a ≡ m = eqb-true a m e in
        let y : c ≡ 1 = eqb-true c 1 d in
        eq-eqb (a * 4 + c) (m * 4 + 1) (omega arith)
    go true e false d =
        let z : a ≡ m = eqb-true a m e in
        let y : c ≡ 1 → ⊥ = eqb-false c 1 d in
        ne_eqb (a * 4 + c) (m * 4 + 1) (λ (h : a * 4 + c ≡ m * 4 + 1). y (omega arith))
    go false e t d =
        let y : a ≡ m → ⊥ = eqb-false a m e in
        ne_eqb (a * 4 + c) (m * 4 + 1) (λ (h : a * 4 + c ≡ m * 4 + 1). y (omega arith))

-- field i + 1 of u is field i of u without its lowest pair
pub code_up : (u i : ℕ) → code_at u (i + 1) ≡ code_at (u / 4) i
code_up u i =
    let e : 2 * (i + 1) ≡ 2 + 2 * i = omega arith in
    ap (λ (x : ℕ). u / x % 4) (ap (λ (y : ℕ). 2 ^ y) e ∙ pow-add 2 2 (2 * i)) ∙ ap (λ (x : ℕ). x % 4) (sym (div-div-eq-div-mul u 4 (2 ^ (2 * i))))

abbrev yes : ℕ → Bool
yes _ = true

module _ (c : ℕ) where
  -- the fields of u with this code
  abbrev coded : ℕ → ℕ → Bool
  coded u f = eqb (code_at u f) c

  scan-up : (k u i : ℕ) → scan (coded u) yes false (i + 1) k ≡ scan (coded (u / 4)) yes false i k
  scan-up zero u i = none_left (coded u) yes false (i + 1) ∙ sym (none_left (coded (u / 4)) yes false i)
  scan-up (suc k) u i = go (scan-up k u (i + 1)) (coded (u / 4) i) refl
    where
      go : scan (coded u) yes false (i + 1 + 1) k ≡ scan (coded (u / 4)) yes false (i + 1) k → (b : Bool) → coded (u / 4) i ≡ b → scan (coded u) yes false (i + 1) (suc k) ≡ scan (coded (u / 4)) yes false i (suc k)
      go h true e = next-yes (coded u) yes false (i + 1) k (ap (λ (x : ℕ). eqb x c) (code_up u i) ∙ e) ∙ sym (next-yes (coded (u / 4)) yes false i k e)
      go h false e = next-no (coded u) yes false (i + 1) k (ap (λ (x : ℕ). eqb x c) (code_up u i) ∙ e) ∙ h ∙ sym (next-no (coded (u / 4)) yes false i k e)

  some-suc : (k u : ℕ) → some (coded u) (suc k) ≡ (eqb (u % 4) c || some (coded (u / 4)) k)
  some-suc k u = go (eqb (u % 4) c) refl
    where
      first : code_at u 0 ≡ u % 4
      first = ap (λ (x : ℕ). x % 4) (div-one u)

      go : (b : Bool) → eqb (u % 4) c ≡ b → some (coded u) (suc k) ≡ (b || some (coded (u / 4)) k)
      go true e = next-yes (coded u) yes false 0 k (ap (λ (x : ℕ). eqb x c) first ∙ e)
      go false e = next-no (coded u) yes false 0 k (ap (λ (x : ℕ). eqb x c) first ∙ e) ∙ scan-up k u 0

nor : (a b : Bool) → (not a && not b) ≡ not (b || a)
nor true true = refl
nor true false = refl
nor false true = refl
nor false false = refl

-- some of the first k fields has both bits
pub threes : (k u : ℕ) → eqb (bit_and (bit_and u (u / 2)) (pairs k)) 0 ≡ not (some (λ f. eqb (code_at u f) 3) k)
threes zero u = eq-eqb _ _ (and_zero_r (bit_and u (u / 2))) ∙ ap not (sym (none_left (coded 3 u) yes false 0))
threes (suc k) u =
    ap (λ (x : ℕ). eqb x 0) (both_step u (pairs k))
    ∙ none_of (bit_and (bit_and (u / 4) (u / 4 / 2)) (pairs k)) (bit_and (u % 2) (u / 2 % 2))
    ∙ ap₂ ◌&&◌ (threes k (u / 4)) (both_low u)
    ∙ nor (some (coded 3 (u / 4)) k) (eqb (u % 4) 3)
    ∙ ap not (sym (some-suc 3 k u))

-- some of them has none
pub zeros : (k u : ℕ) → eqb (bit_and (bit_or u (u / 2)) (pairs k)) (pairs k) ≡ not (some (λ f. eqb (code_at u f) 0) k)
zeros zero u = eq-eqb _ _ (and_zero_r (bit_or u (u / 2))) ∙ ap not (sym (none_left (coded 0 u) yes false 0))
zeros (suc k) u =
    ap (λ (x : ℕ). eqb x (pairs k * 4 + 1)) (either_step u (pairs k))
    ∙ all_of (bit_and (bit_or (u / 4) (u / 4 / 2)) (pairs k)) (pairs k) (bit_or (u % 2) (u / 2 % 2)) (or_lt 1 (u % 2) (u / 2 % 2) (mod-lt u (zero-lt-suc 1)) (mod-lt (u / 2) (zero-lt-suc 1)))
    ∙ ap₂ ◌&&◌ (zeros k (u / 4)) (either_low u)
    ∙ nor (some (coded 0 (u / 4)) k) (eqb (u % 4) 0)
    ∙ ap not (sym (some-suc 0 k u))
