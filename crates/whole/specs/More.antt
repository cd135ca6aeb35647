-- Equal numbers, larger and smaller of whole floats; how large a sum is. Assumes nothing.
use Rattle.std.specs.Prelude.{◌≡◌, refl, Bool, true, false, cond, ℕ, suc, ◌+◌, ◌-◌, ◌≤◌, ltb, ℤ, pos, negsuc, nat_abs, ◌+ℤ◌, Float}
use Rattle.std.proofs.Common.{◌∙◌, le_refl, arith, ltb-true, eq-eqb}
use Rattle.std.proofs.Math.IntN.{sub_ℕ}
use Rattle.std.specs.Int.Signed.{lt_z}
use Rattle.std.specs.Float.{fin}
use Rattle.std.specs.Float.Ieee.{eq}
use Rattle.util.specs.Math.{larger, smaller}
use Rattle.whole.specs.Whole.{signed, Whole}
use Rattle.whole.specs.Compare.{eq_z, lt_whole, eq_whole}

-- ---- floats of one number compare equal

eq_z_refl : (a : ℤ) → eq_z a a ≡ true
eq_z_refl (pos a) = eq-eqb a a refl
eq_z_refl (negsuc a) = eq-eqb a a refl

pub same_number : (x y : Float) (k : ℤ) → Whole x k → Whole y k → eq x y ≡ true
same_number x y k p q = eq_whole x y k k p q ∙ eq_z_refl k

-- ---- larger and smaller

-- larger and smaller over integers, in the same words
abbrev pub max_z : ℤ → ℤ → ℤ
max_z a b = cond (lt_z a b) b a

abbrev pub min_z : ℤ → ℤ → ℤ
min_z a b = cond (lt_z b a) b a

-- the same choice on both sides
pub chosen : (t : Bool) (x y : Float) (a b : ℤ) → Whole x a → Whole y b → Whole (cond t x y) (cond t a b)
chosen true x y a b p q = p
chosen false x y a b p q = q

pub larger_whole : (x y : Float) (a b : ℤ) → Whole x a → Whole y b → Whole (larger x y) (max_z a b)
unfolding larger
larger_whole x y a b p q = rw (lt_whole x y a b p q) (chosen (lt_z a b) y x b a q p)

pub smaller_whole : (x y : Float) (a b : ℤ) → Whole x a → Whole y b → Whole (smaller x y) (min_z a b)
unfolding smaller
smaller_whole x y a b p q = rw (lt_whole y x b a q p) (chosen (lt_z b a) y x b a q p)

-- ---- how large

abs_sub : (a b : ℕ) → nat_abs (sub_ℕ a b) ≤ a + b
abs_sub a b = go (ltb a b) refl
  where
    go : (t : Bool) → ltb a b ≡ t → nat_abs (cond t (negsuc (b - suc a)) (pos (a - b))) ≤ a + b
    go true e =
        let h = ltb-true a b e in
        omega arith
    go false e = omega arith

pub abs_add : (a b : ℤ) → nat_abs (a +ℤ b) ≤ nat_abs a + nat_abs b
abs_add (pos a) (pos b) = le_refl (a + b)
abs_add (pos a) (negsuc b) = abs_sub a (suc b)
abs_add (negsuc a) (pos b) =
    let h = abs_sub b (suc a) in
    omega arith
abs_add (negsuc a) (negsuc b) = omega arith
