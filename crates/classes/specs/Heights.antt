-- A box with all four paddings and borders 0, no height of its own and nothing stacked: its height is 0, or its minimum holds it open.
use Rattle.std.specs.Prelude.{◌≡◌, refl, Bool, true, false, cond, ◌||◌, not, ◌*◌, Float, Option, None, Some}
use Rattle.std.proofs.Common.{sym, ap, subst, ◌∙◌, true≢false, eq-eqb}
use Rattle.std.specs.Bool.{beq}
use Rattle.std.specs.Float.{nan, inf, fin}
use Rattle.std.specs.Float.Ieee.{up, down, lt, le, eq, is_nan, of_bits}
use Rattle.geometry.specs.Geometry.{zero_f}
use Rattle.util.specs.Math.{larger, smaller, capped, floored, clamped}
use Rattle.util.specs.Order.{lt_asym, lt_none, lt_number, number_lt}
use Rattle.steps.specs.Height.{held_open}
use Rattle.classes.specs.Zero.{Zero, zero_number, zero_above, zero_below, zero_of}

zero_real : is_nan zero_f ≡ false
unfolding is_nan of_bits
zero_real = refl

same_sign : (s : Bool) → beq s s ≡ true
same_sign true = refl
same_sign false = refl

eq_self : (x : Float) → is_nan x ≡ false → eq x x ≡ true
unfolding eq is_nan
eq_self nan n = sym n
eq_self (inf s) n = same_sign s
eq_self (fin s m e) n = rw (eq-eqb (m * up e * down e) (m * up e * down e) refl, same_sign s)

or_right : (a b : Bool) → b ≡ true → (a || b) ≡ true
or_right true b e = refl
or_right false b e = e

le_self : (x : Float) → is_nan x ≡ false → le x x ≡ true
unfolding le
le_self x n = or_right (lt x x) (eq x x) (eq_self x n)

-- the larger of a number not above 0 and a 0
pub zero_larger : (w z : Float) → is_nan w ≡ false → lt zero_f w ≡ false → Zero z → Zero (larger w z)
unfolding larger
zero_larger w z n a h = go (lt w z) refl
  where
    go : (t : Bool) → lt w z ≡ t → Zero (cond t z w)
    go true e = h
    go false e = zero_of w n a (lt_none w z zero_f (zero_number z h) e (zero_below z h))

pub open_larger : (x z : Float) → lt zero_f x ≡ true → Zero z → larger x z ≡ x
unfolding larger
open_larger x z e h = rw (lt_none x zero_f z zero_real (lt_asym zero_f x e) (zero_above z h))

-- held open by a minimum above 0
open_held : (x : Float) → lt zero_f x ≡ true → held_open (Some x) x ≡ true
unfolding held_open
open_held x e = rw (e, le_self x (lt_number zero_f x e))

pub height_known : (x pb floor : Float) → Zero pb → Zero floor → is_nan x ≡ false → held_open (Some x) (larger (larger x pb) floor) ≡ false → Zero (larger (larger x pb) floor)
height_known x pb floor p f n h = go (lt zero_f x) refl
  where
    go : (t : Bool) → lt zero_f x ≡ t → Zero (larger (larger x pb) floor)
    go true e =
        let k : larger (larger x pb) floor ≡ x = ap (λ (w : Float). larger w floor) (open_larger x pb e p) ∙ open_larger x floor e f in
        absurd (true≢false (sym (open_held x e) ∙ ap (held_open (Some x)) (sym k) ∙ h))
    go false e =
        let z = zero_larger x pb n e p in
        zero_larger (larger x pb) floor (zero_number (larger x pb) z) (zero_above (larger x pb) z) f

-- 0 with a maximum is a number not above 0
capped_real : (hi : Option Float) → (is_nan (capped zero_f hi) ≡ false) × (lt zero_f (capped zero_f hi) ≡ false)
unfolding capped smaller
capped_real None = (zero_real, self (lt zero_f zero_f) refl)
  where
    self : (t : Bool) → lt zero_f zero_f ≡ t → lt zero_f zero_f ≡ false
    self true e = lt_asym zero_f zero_f e
    self false e = e
capped_real (Some m) = go (lt m zero_f) refl
  where
    self : (t : Bool) → lt zero_f zero_f ≡ t → lt zero_f zero_f ≡ false
    self true e = lt_asym zero_f zero_f e
    self false e = e

    go : (t : Bool) → lt m zero_f ≡ t → (is_nan (cond t m zero_f) ≡ false) × (lt zero_f (cond t m zero_f) ≡ false)
    go true e = (number_lt m zero_f e, lt_asym m zero_f e)
    go false e = (zero_real, self (lt zero_f zero_f) refl)

second_is : (v x : Float) (t : Bool) → lt v x ≡ t → larger v x ≡ cond t x v
unfolding larger
second_is v x t e = ap (λ (b : Bool). cond b x v) e

floored_height : (v : Float) (lo : Option Float) (floor : Float) → is_nan v ≡ false → lt zero_f v ≡ false → Zero floor → held_open lo (larger (floored v lo) floor) ≡ false → Zero (larger (floored v lo) floor)
unfolding floored
floored_height v None floor n a f h = zero_larger v floor n a f
floored_height v (Some x) floor n a f h = go (lt v x) (lt zero_f x) refl refl
  where
    go : (t u : Bool) → lt v x ≡ t → lt zero_f x ≡ u → Zero (larger (larger v x) floor)
    go true true e d =
        let k : larger (larger v x) floor ≡ x = ap (λ (w : Float). larger w floor) (second_is v x true e) ∙ open_larger x floor d f in
        absurd (true≢false (sym (open_held x d) ∙ ap (held_open (Some x)) (sym k) ∙ h))
    go true false e d = subst (λ (w : Float). Zero (larger w floor)) (sym (second_is v x true e)) (zero_larger x floor (lt_number v x e) d f)
    go false u e d = subst (λ (w : Float). Zero (larger w floor)) (sym (second_is v x false e)) (zero_larger v floor n a f)

pub height_content : (lo hi : Option Float) (floor : Float) → Zero floor → held_open lo (larger (clamped zero_f lo hi) floor) ≡ false → Zero (larger (clamped zero_f lo hi) floor)
unfolding clamped
height_content lo hi floor f h = let v = capped_real hi in floored_height (capped zero_f hi) lo floor v.0 v.1 f h
