-- Two tests of a row, by what is compared.
use mathlib.Core.Path.{◌≡◌, refl, ◌∙◌}
use mathlib.Core.Bool.{Bool, beq}
use lib.Ieee.{Float}
use Rattle.limits.specs.Limits.{same_f}

pub same_as : (v : Bool) (x o y p : Float) → v ≡ same_f x o → x ≡ y → o ≡ p → v ≡ same_f y p
same_as v x o y p h e d = h ∙ rw (e, d) refl

pub flag_as : (v a b c d : Bool) → v ≡ beq a b → a ≡ c → b ≡ d → v ≡ beq c d
flag_as v a b c d h e k = h ∙ rw (e, k) refl
