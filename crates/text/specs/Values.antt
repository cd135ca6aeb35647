-- Numbers as text: digits of a base, eight hex digits, the float of a bit pattern.
use Rattle.std.specs.Prelude.{Bool, true, cond, not, ◌&&◌, List, [], ◌∷◌, ℕ, ◌+◌, ◌-◌, ◌*◌, length, eqb, ltb, leb, Float, Option, None, Some}
use Rattle.std.specs.Float.{nan, binary32}
use Rattle.std.specs.Float.Ieee.{nan_bits, of_bits}

-- the value of a digit, lower case, and 16 for what is none
unfoldable pub digit_of : ℕ → ℕ
digit_of b = cond (ltb b 48) 16 (cond (ltb b 58) (b - 48) (cond (ltb b 97) 16 (cond (ltb b 103) (b - 87) 16)))

-- every byte is a digit of the base
unfoldable pub all_digits : ℕ → List ℕ → Bool
all_digits base [] = true
all_digits base (b ∷ s) = ltb (digit_of b) base && all_digits base s

-- the value of digits that follow those of v
unfoldable pub value_from : ℕ → ℕ → List ℕ → ℕ
value_from base v [] = v
value_from base v (b ∷ s) = value_from base (v * base + digit_of b) s

-- digits, one at least, with a value up to the limit
unfoldable pub value_of : ℕ → ℕ → List ℕ → Option ℕ
value_of base limit s =
    cond (not (eqb (length s) 0) && (all_digits base s && leb (value_from base 0 s) limit)) (Some (value_from base 0 s)) None

-- eight hex digits
unfoldable pub hex_of : List ℕ → Option ℕ
hex_of s = cond (eqb (length s) 8) (value_of 16 0xffff_ffff s) None

-- the number of a bit pattern
unfoldable pub float_of : ℕ → Float
float_of w = cond (nan_bits binary32 w) nan (of_bits binary32 w)

unfoldable pub number_of : Option ℕ → Option Float
number_of None = None
number_of (Some w) = Some (float_of w)
