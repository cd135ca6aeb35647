-- Small facts on truth values. Assumes nothing.
use Rattle.std.specs.Prelude.{◌≡◌, refl, Bool, true, false, ◌&&◌, ◌||◌}
use Rattle.std.proofs.Common.{sym}
use Rattle.std.specs.Bool.{beq}

pub and_fst : (a b : Bool) → a && b ≡ true → a ≡ true
and_fst true b e = refl
and_fst false b e = e

pub and_snd : (a b : Bool) → a && b ≡ true → b ≡ true
and_snd true b e = e
and_snd false b e = cc

pub and_false : (a : Bool) → (a && false) ≡ false
and_false true = refl
and_false false = refl

pub or_left : (a b : Bool) → (a || b) ≡ false → a ≡ false
or_left true b e = e
or_left false b e = refl

pub or_right : (a b : Bool) → (a || b) ≡ false → b ≡ false
or_right true b e = cc
or_right false b e = e

pub beq_is : (s t : Bool) → beq s t ≡ true → s ≡ t
beq_is true true e = refl
beq_is true false e = sym e
beq_is false true e = e
beq_is false false e = refl

pub beq_self : (s : Bool) → beq s s ≡ true
beq_self true = refl
beq_self false = refl

-- two tests, each of which brings the other, are one test
pub one_test : (a b : Bool) → (a ≡ true → b ≡ true) → (b ≡ true → a ≡ true) → a ≡ b
one_test true b f g = sym (f refl)
one_test false true f g = g refl
one_test false false f g = refl
