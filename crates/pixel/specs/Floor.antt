-- Floors of halves: what a shift of the digits gives. Assumes nothing.
use Rattle.std.specs.Prelude.{◌≡◌, refl, Bool, true, false, cond, ℕ, zero, suc, ◌+◌, ◌*◌, ◌-◌, ◌/◌, ◌%◌, ◌^◌, ◌<◌, ◌≤◌, ltb, pos, negsuc, neg_ℤ, ◌+ℤ◌}
use Rattle.std.proofs.Common.{sym, ap, ◌∙◌, subst, mul_assoc, mul_comm, add-mul, suc-mul, one-mul, mod-eq_of_lt, arith, pow_pos, pow-add, pow_mono, ltb-true, ltb-false}
use Rattle.std.proofs.Math.Nat.{mul-div-mul_right, div-div-eq-div-mul, div-eq_of_lt-le, div-eq_of_lt, add-div_right, pow-succ', div-le_of_le-mul}
use Rattle.std.specs.Int.Signed.{shr_z}
use Rattle.pixel.specs.Pixel.{halves_up}

gather : (q K D : ℕ) → q * K + q * K + D * K ≡ (2 * q + D) * K
gather q K D =
    let a = mul_assoc 2 q K in
    let b = add-mul (2 * q) D K in
    omega (arith, a, b)

-- a common factor K goes
pub up_floor : (q K D H : ℕ) → 0 < K → H ≡ D * K → (q * K + q * K + H) / (2 * H) ≡ (2 * q + D) / (2 * D)
up_floor q K D H p e =
    ap (λ (h : ℕ). (q * K + q * K + h) / (2 * h)) e
    ∙ ap (λ (a : ℕ). a / (2 * (D * K))) (gather q K D)
    ∙ ap (λ (b : ℕ). (2 * q + D) * K / b) (sym (mul_assoc 2 D K))
    ∙ mul-div-mul_right (2 * q + D) (2 * D) p

-- and so it does from one less than a multiple of it
one_less : (y K : ℕ) → 0 < K → (suc y * K - 1) / K ≡ y
one_less y K p =
    let a = suc-mul y K in
    let b = add-mul y 1 K in
    div-eq_of_lt-le K (omega (arith, a)) (omega (arith, a, b))

less_floor : (Y K W : ℕ) → 0 < Y → 0 < K → (Y * K - 1) / (K * W) ≡ (Y - 1) / W
less_floor zero K W h p = elim h [ ]
less_floor (suc y) K W h p = sym (div-div-eq-div-mul (suc y * K - 1) K W) ∙ ap (λ (a : ℕ). a / W) (one_less y K p ∙ omega arith)

pub down_floor : (q K D H : ℕ) → 0 < K → 0 < D → H ≡ D * K → (q * K + q * K + H - 1) / (2 * H) ≡ (2 * q + D - 1) / (2 * D)
down_floor q K D H p d e =
    ap (λ (h : ℕ). (q * K + q * K + h - 1) / (2 * h)) e
    ∙ ap (λ (a : ℕ). (a - 1) / (2 * (D * K))) (gather q K D)
    ∙ ap (λ (b : ℕ). ((2 * q + D) * K - 1) / b) (sym (mul_assoc 2 D K) ∙ mul_comm (2 * D) K)
    ∙ less_floor (2 * q + D) K (2 * D) (omega arith) p

none : (n m : ℕ) → n < m → n / m ≡ 0
none n m h = div-eq_of_lt h

-- the floor of a number that is not positive, by its magnitude
neg_floor : (M H : ℕ) → 0 < H → shr_z (neg_ℤ (pos M) +ℤ neg_ℤ (pos M) +ℤ pos H) (2 * H) ≡ neg_ℤ (pos ((M + M + H - 1) / (2 * H)))
neg_floor zero H h =
    ap pos (none (0 + 0 + H) (2 * H) (omega arith)) ∙ ap (λ (n : ℕ). neg_ℤ (pos n)) (sym (none (0 + 0 + H - 1) (2 * H) (omega arith)))
neg_floor (suc a) H h = go (ltb H (suc (suc (a + a)))) refl
  where
    go : (t : Bool) → ltb H (suc (suc (a + a))) ≡ t
        → shr_z (cond t (negsuc (suc (suc (a + a)) - suc H)) (pos (H - suc (suc (a + a))))) (2 * H) ≡ neg_ℤ (pos ((suc a + suc a + H - 1) / (2 * H)))
    go true e =
        let l : H < suc (suc (a + a)) = ltb-true H (suc (suc (a + a))) e in
        let z = suc (suc (a + a)) - suc H in
        let s : suc a + suc a + H - 1 ≡ z + 2 * H = omega arith in
        let r : (suc a + suc a + H - 1) / (2 * H) ≡ suc (z / (2 * H)) = ap (λ (n : ℕ). n / (2 * H)) s ∙ add-div_right z (omega arith) ∙ omega arith in
        sym (ap (λ (n : ℕ). neg_ℤ (pos n)) r)
    go false e =
        let l : suc (suc (a + a)) ≤ H = ltb-false H (suc (suc (a + a))) e in
        ap pos (none (H - suc (suc (a + a))) (2 * H) (omega arith)) ∙ ap (λ (n : ℕ). neg_ℤ (pos n)) (sym (none (suc a + suc a + H - 1) (2 * H) (omega arith)))

-- ---- halves_up of either sign

pub above_zero : (M : ℕ) → halves_up (pos M) ≡ pos ((M + M + 2 ^ 149) / (2 * 2 ^ 149))
unfolding halves_up
above_zero M = refl

pub under_zero : (M : ℕ) → halves_up (neg_ℤ (pos M)) ≡ neg_ℤ (pos ((M + M + 2 ^ 149 - 1) / (2 * 2 ^ 149)))
unfolding halves_up
under_zero M = neg_floor M (2 ^ 149) (pow_pos 149)

-- `omega` stops at a number of more than 38 digits: H stands for 2 ^ 149
pub small_up : (M H : ℕ) → M + M < H → (M + M + H) / (2 * H) ≡ 0
small_up M H h = none (M + M + H) (2 * H) (omega arith)

pub small_down : (M H : ℕ) → M + M < H → (M + M + H - 1) / (2 * H) ≡ 0
small_down M H h = none (M + M + H - 1) (2 * H) (omega arith)

-- ---- digits q that stand k places above the last, d below the point

pub half_is : (k d : ℕ) → k + d ≡ 149 → 2 ^ 149 ≡ 2 ^ d * 2 ^ k
half_is k d e = ap (λ (n : ℕ). 2 ^ n) (sym e) ∙ pow-add 2 k d ∙ mul_comm (2 ^ k) (2 ^ d)

-- what the code works out: s is 1 for a number below zero, and moves a half toward zero
abbrev pub shifted : ℕ → ℕ → ℕ → ℕ
shifted q d s = (2 * q + 2 ^ d - s) / 2 ^ (d + 1)

pub next : (d : ℕ) → 2 ^ (d + 1) ≡ 2 * 2 ^ d
next d = ap (λ (n : ℕ). 2 ^ n) (add-one d) ∙ pow-succ' 2 d
  where
    add-one : (n : ℕ) → n + 1 ≡ suc n
    add-one n = omega arith

-- ---- the code's own numbers

-- 1 << d
pub bit_at : (d : ℕ) → d ≤ 24 → 1 * 2 ^ d % 0x1_0000_0000 ≡ 2 ^ d
bit_at d h =
    let m : 2 ^ d ≤ 2 ^ 24 = pow_mono h in
    ap (λ (n : ℕ). n % 0x1_0000_0000) (one-mul (2 ^ d)) ∙ mod-eq_of_lt (omega arith)

pub bit_room : (d : ℕ) → d ≤ 24 → (2 ^ d ≤ 0x100_0000) × (0 < 2 ^ d)
bit_room d h = (pow_mono h, pow_pos d)

pub shifted_in : (q d s : ℕ) → q < 2 ^ 24 → shifted q d s ≤ 2 ^ 24
shifted_in q d s h =
    let p = pow_pos d in
    let e = next d in
    div-le_of_le-mul (2 ^ (d + 1)) (subst (λ (n : ℕ). 2 * q + 2 ^ d - s ≤ n * 2 ^ 24) (sym e) (room q (2 ^ d) s h p))
  where
    room : (q D s : ℕ) → q < 2 ^ 24 → 0 < D → 2 * q + D - s ≤ 2 * D * 2 ^ 24
    room q D s h p = omega arith
