-- Steps A, B, D and E of a box of the profile are those over whole numbers. Assumes nothing.
use Rattle.std.specs.Option.{option_or}
use Rattle.geometry.specs.declared.Size.{Size}
use Rattle.std.specs.Prelude.{◌≡◌, refl, Bool, true, false, cond, ℕ, ◌≤◌, T, ℤ, Float, Option, None, Some}
use Rattle.std.proofs.Common.{sym, subst, arith, lit≤}
use Rattle.std.specs.Int.Signed.{le_z}
use Rattle.std.specs.Float.Ieee.{le}
use Rattle.geometry.specs.Geometry.{across, down, sum_axes, plus}
use Rattle.geometry.specs.declared.Rect.{Rect}
use Rattle.util.specs.Maybe.{clamp_opt, ratio_fills, add_size}
use Rattle.style.specs.declared.Overflow.{Overflow}
use Rattle.style.specs.declared.Overflow.TheVariants.{Visible, Clip, Hidden, Scroll}
use Rattle.style.specs.declared.Style.{Style}
use Rattle.steps.specs.Sizing.{decided, known_axis, step_b, filled, step_d, known_of, bar_of}
use Rattle.steps.specs.declared.Sizing.{Sizing}
use Rattle.whole.specs.Test.{pixel, number}
use Rattle.whole.specs.Range.{within_le, zero_is}
use Rattle.whole.proofs.Range.{pixel_within}
use Rattle.integers.specs.Numbers.{MayZ, NoneZ, SomeZ, SizeMay, RectZ, across_z, down_z, plus_z}
use Rattle.integers.specs.Boxes.{BoxZ, box_size_z, box_both_z, box_of_z, decided_z, known_axis_z, known_z, bar_of_z}
use Rattle.profile.specs.Page.{InProfile}
use Rattle.exact.specs.Near.{Near, wide, plus_is, MayIs, none_is, some_is, wide_may, or_else_is, add_opt_is, clamp_opt_is, floor_opt_is}
use Rattle.exact.specs.Read.{style_z}

pub no : {A : Type 0} → false ≡ true → A
no e = absurd (subst T (sym e) tt)

-- ---- numbers of the page
pub pixel_is : (x : Float) → pixel x ≡ true → Near x (number x) 1024
pixel_is x e = pixel_within x (subst T (sym e) tt)

-- ---- sides and sizes: t bounds the top, s both sides, b the bottom
pub record RectIs (r : Rect Float) (k : RectZ) (t s b : ℕ) : Type 0 where
  pub top : Near r.top k.top t
  pub right : Near r.right k.right s
  pub bottom : Near r.bottom k.bottom b
  pub left : Near r.left k.left s

pub record SizeIs (o : Size (Option Float)) (k : SizeMay) (w h : ℕ) : Type 0 where
  pub width : MayIs w o.width k.width
  pub height : MayIs h o.height k.height

-- ---- A
pub record BoxIs (z : Sizing) (k : BoxZ) : Type 0 where
  pub padding : RectIs z.padding k.padding 1024 1024 1024
  pub border : RectIs z.border k.border 1024 1024 1024
  pub both : RectIs z.both k.both 2048 2048 2048
  pub size : SizeIs z.size k.size 5120 5120
  pub min : SizeIs z.min k.min 5120 5120
  pub max : SizeIs z.max k.max 5120 5120

pub both_across : {r : Rect Float} {k : RectZ} → RectIs r k 2048 2048 2048 → Near (across r) (across_z k) 4096
unfolding across_z
both_across p = plus_is p.left p.right (lit≤ tt)

pub both_down : {r : Rect Float} {k : RectZ} → RectIs r k 2048 2048 2048 → Near (down r) (down_z k) 4096
unfolding down_z
both_down p = plus_is p.top p.bottom (lit≤ tt)

pub boxed_is : (c : Bool) {o : Size (Option Float)} {z : SizeMay} {r : Rect Float} {k : RectZ} → SizeIs o z 1024 1024 → RectIs r k 2048 2048 2048 → SizeIs (cond c (add_size o (sum_axes r)) o) (box_size_z c z k) 5120 5120
unfolding box_size_z add_size sum_axes
boxed_is true p q = record { width = add_opt_is p.width (both_across q) (lit≤ tt); height = add_opt_is p.height (both_down q) (lit≤ tt) }
boxed_is false p q = record { width = wide_may p.width (lit≤ tt); height = wide_may p.height (lit≤ tt) }

pub plus_rect_is : {a b : Rect Float} {j k : RectZ} → RectIs a j 1024 1024 1024 → RectIs b k 1024 1024 1024 → RectIs (plus a b) (plus_z j k) 2048 2048 2048
unfolding plus plus_z
plus_rect_is p q =
    record {
      top = plus_is p.top q.top (lit≤ tt);
      right = plus_is p.right q.right (lit≤ tt);
      bottom = plus_is p.bottom q.bottom (lit≤ tt);
      left = plus_is p.left q.left (lit≤ tt);
    }

-- ---- B
decided_by : (t : Bool) {n : ℕ} {x : Float} {k : ℤ} → Near x k n → MayIs n (cond t (Some x) None) (cond t (SomeZ k) NoneZ)
decided_by true p = some_is p
decided_by false p = none_is

decided_two : {n : ℕ} {x y : Float} {k j : ℤ} → Near x k n → Near y j n → MayIs n (cond (le y x) (Some x) None) (cond (le_z j k) (SomeZ k) NoneZ)
decided_two {n} {x} {y} {k} {j} p q = rw (within_le q p) (decided_by (le_z j k) p)

decided_is : {n : ℕ} {lo hi : Option Float} {a b : MayZ} → MayIs n lo a → MayIs n hi b → MayIs n (decided lo hi) (decided_z a b)
unfolding decided decided_z
decided_is none_is q = none_is
decided_is (some_is p) none_is = none_is
decided_is (some_is p) (some_is q) = decided_two p q

known_axis_is : {n : ℕ} {asked size lo hi : Option Float} {d c a b : MayZ} {y : Float} {k : ℤ} → MayIs n asked d → MayIs n size c → MayIs n lo a → MayIs n hi b → Near y k n
    → MayIs n (known_axis asked size lo hi y) (known_axis_z d c a b k)
unfolding known_axis known_axis_z
known_axis_is p q r s u = floor_opt_is (or_else_is p (or_else_is (decided_is r s) (clamp_opt_is q r s))) u

pub step_b_is : {z : Sizing} {k : BoxZ} {o : Size (Option Float)} {a : SizeMay} {w h : ℕ} → BoxIs z k → SizeIs o a w h → 5120 ≤ w → 5120 ≤ h → SizeIs (step_b z o) (known_z k a) w h
unfolding step_b known_z
step_b_is p q u v =
    record {
      width = known_axis_is q.width (wide_may p.size.width u) (wide_may p.min.width u) (wide_may p.max.width u) (wide (both_across p.both) (omega arith));
      height = known_axis_is q.height (wide_may p.size.height v) (wide_may p.min.height v) (wide_may p.max.height v) (wide (both_down p.both) (omega arith));
    }

-- ---- D: without a ratio it fills nothing
settled : {n : ℕ} {o : Option Float} {a : MayZ} (lo hi : Option Float) → MayIs n o a → MayIs n (option_or o (clamp_opt o lo hi)) a
unfolding clamp_opt
settled lo hi none_is = none_is
settled lo hi (some_is p) = some_is p

pub step_d_is : (s : Style) (z : Sizing) {o : Size (Option Float)} {a : SizeMay} {w h : ℕ} → s.ratio ≡ None → SizeIs o a w h → SizeIs (step_d s z o) a w h
unfolding step_d filled ratio_fills
step_d_is s z e p = rw e (record { width = settled _ _ p.width; height = settled _ _ p.height })

pub known_is : (s : Style) {z : Sizing} {k : BoxZ} {o : Size (Option Float)} {a : SizeMay} {w h : ℕ} → InProfile s → BoxIs z k → SizeIs o a w h → 5120 ≤ w → 5120 ≤ h → SizeIs (known_of s z o) (known_z k a) w h
unfolding known_of
known_is s {z} p q r u v = step_d_is s z p.ratio (step_b_is q r u v)

-- ---- E
pub bar_is : (o : Overflow) {x : Float} {k : ℤ} → Near x k 1024 → Near (bar_of o x) (bar_of_z o k) 1024
unfolding bar_of bar_of_z
bar_is Visible p = zero_is
bar_is Clip p = zero_is
bar_is Hidden p = zero_is
bar_is Scroll p = p

pub near_cond : (t : Bool) {x y : Float} {a b : ℤ} {n : ℕ} → Near x a n → Near y b n → Near (cond t x y) (cond t a b) n
near_cond true p q = p
near_cond false p q = q

pub near_test : {s t : Bool} {x y : Float} {a b : ℤ} {n : ℕ} → s ≡ t → Near x a n → Near y b n → Near (cond s x y) (cond t a b) n
near_test {s} {t} e p q = rw e (near_cond t p q)

pub box_both : (s : Style) → (box_of_z (style_z s)).both ≡ box_both_z (style_z s)
unfolding box_of_z
box_both s = refl

pub inset_across : {r : Rect Float} {k : RectZ} → RectIs r k 2048 3072 3072 → Near (across r) (across_z k) 6144
unfolding across_z
inset_across p = plus_is p.left p.right (lit≤ tt)

pub inset_down : {r : Rect Float} {k : RectZ} → RectIs r k 2048 3072 3072 → Near (down r) (down_z k) 5120
unfolding down_z
inset_down p = plus_is p.top p.bottom (lit≤ tt)
