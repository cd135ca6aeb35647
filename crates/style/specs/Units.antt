-- A code of two bits, over the field: one of four, and its own two bits alone settle it. Assumes nothing.
use Rattle.std.specs.Prelude.{◌≡◌, refl, Bool, true, false, cond, ℕ, ◌+◌, ◌*◌, ◌-◌, ◌/◌, ◌%◌, ◌^◌, ◌<◌, ◌≤◌, ltb}
use Rattle.std.proofs.Common.{ap, ◌∙◌, zero-lt-suc, mod-lt, lt-ltb, le-ltb}
use Rattle.std.proofs.Math.Arith.{digits_div, digits_mod}
use Rattle.style.specs.Codes.{code_at, unit_of}

pub code_below : (w f : ℕ) → code_at w f < 4
code_below w f = mod-lt (w / 2 ^ (2 * f)) (zero-lt-suc 3)

-- fields 0 to 13 stand in the first unit word, 14 to 21 in the second
pub unit_first : (u v f : ℕ) → f < 14 → code_at u f ≡ unit_of u v f
unfolding unit_of
unit_first u v f h = rw (lt-ltb f 14 h)

pub unit_second : (u v f : ℕ) → 14 ≤ f → code_at v (f - 14) ≡ unit_of u v f
unfolding unit_of
unit_second u v f h = rw (le-ltb f 14 h)

pub unit_below : (u v f : ℕ) → unit_of u v f < 4
unfolding unit_of
unit_below u v f = go (ltb f 14)
  where
    go : (t : Bool) → cond t (code_at u f) (code_at v (f - 14)) < 4
    go true = code_below u f
    go false = code_below v (f - 14)

-- whatever stands below the field's two bits and above them
pub code_own : (f low k high : ℕ) → low < 2 ^ (2 * f) → k < 4 → code_at ((high * 4 + k) * 2 ^ (2 * f) + low) f ≡ k
code_own f low k high h g = ap (λ (x : ℕ). x % 4) (digits_div (high * 4 + k) h) ∙ digits_mod high g
