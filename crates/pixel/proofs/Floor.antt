-- Floors of halves: what a shift of the digits gives. Assumes nothing.
use Rattle.std.specs.Prelude.{◌≡◌, Bool, true, false, ℕ, ◌+◌, ◌*◌, ◌-◌, ◌/◌, ◌^◌, ◌<◌, pos, neg_ℤ}
use Rattle.std.proofs.Common.{sym, ap, ◌∙◌, pow_pos}
use Rattle.std.proofs.Math.Nat.{sub-zero}
use Rattle.pixel.specs.Pixel.{signed, halves_up}
use Rattle.pixel.specs.Floor.{up_floor, down_floor, above_zero, under_zero, small_up, small_down, half_is, shifted, next}

-- below a half in size: 0
pub tiny : (s : Bool) (M : ℕ) → M + M < 2 ^ 149 → halves_up (signed s M) ≡ pos 0
tiny false M h = above_zero M ∙ ap pos (small_up M (2 ^ 149) h)
tiny true M h = under_zero M ∙ ap (λ (n : ℕ). neg_ℤ (pos n)) (small_down M (2 ^ 149) h)

pub shift_up : (q k d : ℕ) → k + d ≡ 149 → halves_up (pos (q * 2 ^ k)) ≡ pos (shifted q d 0)
shift_up q k d e =
    above_zero (q * 2 ^ k)
    ∙ ap pos (up_floor q (2 ^ k) (2 ^ d) (2 ^ 149) (pow_pos k) (half_is k d e)
    ∙ ap (λ (n : ℕ). (2 * q + 2 ^ d) / n) (sym (next d))
    ∙ ap (λ (n : ℕ). n / 2 ^ (d + 1)) (sym (sub-zero (2 * q + 2 ^ d))))

pub shift_down : (q k d : ℕ) → k + d ≡ 149 → halves_up (neg_ℤ (pos (q * 2 ^ k))) ≡ neg_ℤ (pos (shifted q d 1))
shift_down q k d e =
    under_zero (q * 2 ^ k)
    ∙ ap (λ (n : ℕ). neg_ℤ (pos n)) (down_floor q (2 ^ k) (2 ^ d) (2 ^ 149) (pow_pos k) (pow_pos d) (half_is k d e)
    ∙ ap (λ (n : ℕ). (2 * q + 2 ^ d - 1) / n) (sym (next d)))
