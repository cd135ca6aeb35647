-- What the nearest whole pixel promises. Assumes nothing.
use Rattle.std.specs.Prelude.{◌≡◌, true, ℕ, suc, ◌+◌, ◌*◌, ◌-◌, ◌/◌, ◌^◌, ◌<◌, ◌≤◌, T, ℤ, pos, negsuc, neg_ℤ, ◌+ℤ◌, ◌-ℤ◌, ◌*ℤ◌, ◌≤ℤ◌, Float}
use Rattle.std.proofs.Common.{sym, ap, ◌∙◌, subst, mul_left_comm, div-mul-le_self, arith, le→leb, leb→le, pow_pos}
use Rattle.std.proofs.Math.Nat.{lt-div-mul-add}
use Rattle.std.proofs.Math.IntN.{+ℤ_comm, -ℤ-+ℤ_cancel}
use Rattle.std.specs.Int.Signed.{le_z, ≤ℤ_refl, le_z_yes}
use Rattle.std.proofs.Math.Pow.{shr_mono}
use Rattle.std.specs.Float.Ieee.{lt, eq, le}
use Rattle.limits.specs.Limits.{finite}
use Rattle.pixel.specs.Pixel.{scaled, halves_up, whole_pixel, Near}
use Rattle.pixel.specs.Floor.{above_zero, under_zero}
use Rattle.pixel.specs.Laws.{scaled_eq, equal_alike, double, double_less, neg_le, neg_pos, two_le, lt_le, or_of, near_of, times, sub_of_le}

halves_mono : (E F : ℤ) → T (le_z E F) → T (le_z (halves_up E) (halves_up F))
halves_mono (pos M) (pos N) h = two_le (above_zero M) (above_zero N) (le→leb ((M + M + 2 ^ 149) / (2 * 2 ^ 149)) ((N + N + 2 ^ 149) / (2 * 2 ^ 149)) (shr_mono 150 (double M N (2 ^ 149) (leb→le M N h))))
halves_mono (pos M) (negsuc b) h = absurd h
halves_mono (negsuc a) (pos N) h = two_le (under_zero (suc a)) (above_zero N) (neg_pos ((suc a + suc a + 2 ^ 149 - 1) / (2 * 2 ^ 149)) ((N + N + 2 ^ 149) / (2 * 2 ^ 149)))
halves_mono (negsuc a) (negsuc b) h =
    two_le (under_zero (suc a)) (under_zero (suc b)) (neg_le ((suc a + suc a + 2 ^ 149 - 1) / (2 * 2 ^ 149)) ((suc b + suc b + 2 ^ 149 - 1) / (2 * 2 ^ 149)) (shr_mono 150 (double_less (suc b) (suc a) (2 ^ 149) (up_one b a (leb→le b a h)))))
  where
    up_one : (i j : ℕ) → i ≤ j → suc i ≤ suc j
    up_one i j l = omega arith

pub monotone : (x y : Float) → finite x ≡ true → finite y ≡ true → le x y ≡ true → whole_pixel x ≤ℤ whole_pixel y
unfolding le whole_pixel
monotone x y f i q =
    or_of (lt x y) (eq x y)
    (λ l. le_z_yes (halves_mono (scaled x) (scaled y) (lt_le x y f i l)))
    (λ e. subst (λ (z : ℤ). halves_up (scaled x) ≤ℤ halves_up z) (scaled_eq x y e) (≤ℤ_refl (halves_up (scaled x))))
    q

-- the quotient's bounds, for either sign
near_up : (M H : ℕ) → 0 < H → Near (pos ((M + M + H) / (2 * H) * H) -ℤ pos M) H
near_up M H h =
    let n = (M + M + H) / (2 * H) in
    let m : n * (2 * H) ≡ 2 * (n * H) = mul_left_comm n 2 H in
    let lo : n * (2 * H) ≤ M + M + H = div-mul-le_self (M + M + H) (2 * H) in
    let hi : M + M + H < n * (2 * H) + 2 * H = lt-div-mul-add (twice H h) in
    near_of (n * H) M H (omega arith) (omega arith)
  where
    twice : (H : ℕ) → 0 < H → 0 < 2 * H
    twice H h = omega arith

near_down : (M H : ℕ) → 0 < H → Near (pos M -ℤ pos ((M + M + H - 1) / (2 * H) * H)) H
near_down M H h =
    let n = (M + M + H - 1) / (2 * H) in
    let m : n * (2 * H) ≡ 2 * (n * H) = mul_left_comm n 2 H in
    let lo : n * (2 * H) ≤ M + M + H - 1 = div-mul-le_self (M + M + H - 1) (2 * H) in
    let hi : M + M + H - 1 < n * (2 * H) + 2 * H = lt-div-mul-add (twice H h) in
    near_of M (n * H) H (omega arith) (omega arith)
  where
    twice : (H : ℕ) → 0 < H → 0 < 2 * H
    twice H h = omega arith

halves_near : (E : ℤ) → Near (halves_up E *ℤ pos (2 ^ 149) -ℤ E) (2 ^ 149)
halves_near (pos M) = subst (λ (z : ℤ). Near (z *ℤ pos (2 ^ 149) -ℤ pos M) (2 ^ 149)) (sym (above_zero M)) (near_up M (2 ^ 149) (pow_pos 149))
halves_near (negsuc a) =
    let n = (suc a + suc a + 2 ^ 149 - 1) / (2 * 2 ^ 149) in
    subst (λ (z : ℤ). Near z (2 ^ 149))
    (sym (ap (λ (z : ℤ). z *ℤ pos (2 ^ 149) +ℤ pos (suc a)) (under_zero (suc a))
    ∙ ap (λ (z : ℤ). z +ℤ pos (suc a)) (times n (2 ^ 149))
    ∙ +ℤ_comm (neg_ℤ (pos (n * 2 ^ 149))) (pos (suc a))))
    (near_down (suc a) (2 ^ 149) (pow_pos 149))

pub near : (x : Float) → Near (whole_pixel x *ℤ pos (2 ^ 149) -ℤ scaled x) (2 ^ 149)
unfolding whole_pixel
near x = halves_near (scaled x)

-- ---- a box whose far edge is another's near edge ends where that one begins, on the panel too

pub common_edge : (near far next : Float) → eq far next ≡ true → whole_pixel far -ℤ whole_pixel near +ℤ whole_pixel near ≡ whole_pixel next
common_edge near far next q = -ℤ-+ℤ_cancel (whole_pixel far) (whole_pixel near) ∙ equal_alike far next q

pub size_not_negative : (near far : Float) → finite near ≡ true → finite far ≡ true → le near far ≡ true → pos 0 ≤ℤ (whole_pixel far -ℤ whole_pixel near)
size_not_negative near far f i q = le_z_yes (sub_of_le (whole_pixel near) (whole_pixel far) (monotone near far f i q).le)
