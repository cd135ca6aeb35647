-- What a steady node brings to the steps, where refusal 4 is not given. Assumes nothing.
use Rattle.geometry.specs.declared.Rect.{Rect}
use Rattle.std.specs.Prelude.{◌≡◌, Bool, true, ℕ, zero, suc, T, Float, Option, None}
use Rattle.std.proofs.Math.Path.{refl}
use Rattle.std.proofs.Common.{sym, subst}
use Rattle.std.proofs.Math.Bool.{false}
use Rattle.std.proofs.lemmas.Bool.{false≢true}
use Rattle.std.specs.Float.{nan, inf, fin}
use Rattle.std.specs.Float.Ieee.{lt, le, eq, is_nan, of_bits}
use borrow.Author.Tests.{not-true}
use Rattle.geometry.specs.Geometry.{zero_f, plus, down}
use Rattle.limits.specs.Limits.{in_range}
use Rattle.limits.specs.Bools.{and_fst}
use Rattle.util.specs.Maybe.{or_zero}
use Rattle.length.specs.Length.{resolved, resolved_or_zero, resolved_rect}
use Rattle.length.specs.declared.Length.{Length}
use Rattle.length.specs.declared.Length.TheVariants.{Auto, Pixels, Fraction}
use Rattle.style.specs.Codes.{length_of}
use Rattle.style.specs.declared.Position.{Position}
use Rattle.style.specs.declared.Position.TheVariants.{Static, Relative, Absolute}
use Rattle.style.specs.declared.AlignContent.{AlignContent}
use Rattle.style.specs.declared.AlignContent.TheVariants.{Normal, Start, Center, End, SpaceBetween, SpaceAround, SpaceEvenly, Stretch}
use Rattle.style.specs.declared.Style.{Style}
use Rattle.alignment.specs.Align.{align_shift}
use Rattle.steps.specs.Stack.{offset_by}
use Rattle.sums.specs.Sums.{lt_self, le_lt}
use Rattle.sums.specs.Solid.{Solid, zero_solid}
use Rattle.order.specs.Class.{fair, whole, still, unshifted}

-- no margin at the top or bottom is below 0, padding and border down are not, nothing moves the box or its children, its table's height is not below 0
pub record Steady (s : Style) : Type 0 where
  pub above : (b : Option Float) → lt (resolved_or_zero s.margin.top b) zero_f ≡ false
  pub under : (b : Option Float) → lt (resolved_or_zero s.margin.bottom b) zero_f ≡ false
  pub floor : (b : Option Float) → Solid (down (plus (resolved_rect s.padding b) (resolved_rect s.border b)))
  pub offset : (i : Rect Length) (rtl : Bool) (b h : Option Float) → (offset_by s.position i rtl b h).y ≡ zero_f
  pub shift : (free : Float) → align_shift s.align s.safe free ≡ None
  pub text : lt s.measure.height zero_f ≡ false

-- ---- each test, and what it brings

pub fair_number : (l : Length) (b : Option Float) → fair l ≡ true → lt (resolved_or_zero l b) zero_f ≡ false
unfolding fair resolved_or_zero resolved
fair_number Auto b h = lt_self zero_f
fair_number (Pixels x) b h = not-true _ h
fair_number (Fraction x) b h = absurd (false≢true h)

pub whole_number : (k : ℕ) (x : Float) (b : Option Float) → whole (length_of k x) ≡ true → Solid x → Solid (resolved_or_zero (length_of k x) b)
unfolding whole length_of resolved_or_zero resolved
whole_number zero x b h s = zero_solid
whole_number (suc zero) x b h s = s
whole_number (suc (suc zero)) x b h s = absurd (false≢true h)
whole_number (suc (suc (suc n))) x b h s = zero_solid

pub still_offset : (p : Position) (i : Rect Length) (rtl : Bool) (b h : Option Float) → still p ≡ true → (offset_by p i rtl b h).y ≡ zero_f
unfolding still offset_by
still_offset Static i rtl b h e = refl
still_offset Relative i rtl b h e = absurd (false≢true e)
still_offset Absolute i rtl b h e = refl

pub unshifted_none : (a : AlignContent) (safe : Bool) (free : Float) → unshifted a ≡ true → align_shift a safe free ≡ None
unfolding unshifted align_shift
unshifted_none Normal safe free e = refl
unshifted_none Start safe free e = refl
unshifted_none Center safe free e = absurd (false≢true e)
unshifted_none End safe free e = absurd (false≢true e)
unshifted_none SpaceBetween safe free e = refl
unshifted_none SpaceAround safe free e = absurd (false≢true e)
unshifted_none SpaceEvenly safe free e = absurd (false≢true e)
unshifted_none Stretch safe free e = refl

-- ---- numbers that refusal 4 lets pass

le_number : (x : Float) → le zero_f x ≡ true → is_nan x ≡ false
unfolding is_nan le lt eq of_bits
le_number nan h = absurd (false≢true h)
le_number (inf s) h = refl
le_number (fin s m e) h = refl

pub range_solid : (x hi : Float) → in_range x zero_f hi ≡ true → Solid x
unfolding in_range
range_solid x hi h =
    let l = and_fst (le zero_f x) (le x hi) h in
    (le_number x l, le_lt zero_f x (subst T (sym l) tt))
