-- An edge as a whole number of 2 ^ -149, and the nearest whole pixel, halves up. Definitions only.
use Rattle.std.specs.Prelude.{Bool, false, cond, ℕ, ◌*◌, ◌/◌, ◌^◌, ℤ, pos, neg_ℤ, ◌+ℤ◌, ◌<ℤ◌, ◌≤ℤ◌, Float}
use Rattle.std.specs.Int.Signed.{shr_z}
use Rattle.std.specs.Float.{nan, inf, fin}
use Rattle.std.specs.Float.Ieee.{up, down}

-- 2 ^ -149 is the smallest f32 above zero: every finite one is a whole number of it. How many, by magnitude
unfoldable pub size_of : Float → ℕ
size_of nan = 0
size_of (inf s) = 0
size_of (fin s m g) = m * up g * 2 ^ 149 / down g

abbrev pub sign_of : Float → Bool
sign_of nan = false
sign_of (inf s) = s
sign_of (fin s m g) = s

-- and with its sign
abbrev pub signed : Bool → ℕ → ℤ
signed s n = cond s (neg_ℤ (pos n)) (pos n)

unfoldable pub scaled : Float → ℤ
unfolding size_of
scaled x = signed (sign_of x) (size_of x)

-- E / 2 ^ 149 to the nearest whole number, halves up: (2 E + 2 ^ 149) / 2 ^ 150, rounded down
unfoldable pub halves_up : ℤ → ℤ
halves_up E = shr_z (E +ℤ E +ℤ pos (2 ^ 149)) (2 ^ 150)

-- the whole pixel of an edge
unfoldable pub whole_pixel : Float → ℤ
unfolding scaled halves_up
whole_pixel x = halves_up (scaled x)

-- D is at most half of H, and is H / 2 only from below: -H < 2 D ≤ H
abbrev pub Near : ℤ → ℕ → Type 0
Near D H = (neg_ℤ (pos H) <ℤ (D +ℤ D)) × ((D +ℤ D) ≤ℤ pos H)
