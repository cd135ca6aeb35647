-- Step I, and what step J asks of a child, on a page of the profile. Assumes nothing.
use Rattle.geometry.specs.declared.Size.{Size}
use Rattle.std.specs.Prelude.{◌≡◌, refl, Bool, true, false, cond, not, ◌&&◌, ℕ, ◌+◌, ◌^◌, ◌≤◌, ℤ, ◌-ℤ◌, Float, Option, None}
use Rattle.std.proofs.Common.{arith, lit≤}
use Rattle.geometry.specs.Geometry.{across}
use Rattle.geometry.specs.declared.Point.{Point}
use Rattle.geometry.specs.declared.Rect.{Rect}
use Rattle.length.specs.Length.{is_auto}
use Rattle.length.specs.declared.Length.{Length}
use Rattle.length.specs.declared.Length.TheVariants.{Auto, Pixels, Fraction}
use Rattle.style.specs.Flow.{flow_of}
use Rattle.style.specs.declared.Style.{Style}
use Rattle.steps.specs.Context.{new_context, plain_block}
use Rattle.steps.specs.HeightBasis.{definite_of, basis_below}
use Rattle.steps.specs.Through.{open_box, hollow_box}
use Rattle.steps.specs.Edges.{adjoins, own_end_of}
use Rattle.steps.specs.Stack.{inner_width, offset_x, asked_width, asked_height}
use Rattle.steps.specs.declared.LayoutInput.{LayoutInput}
use Rattle.steps.specs.declared.Frame.{Frame}
use Rattle.steps.specs.declared.BlockItem.{BlockItem}
use Rattle.whole.specs.Range.{within_lt, within_eq}
use Rattle.integers.specs.Numbers.{MayZ, NoneZ, SizeMay, PointZ, RectZ, is_some_z, across_z}
use Rattle.integers.specs.Styles.{flow_z, new_context_z, plain_block_z, InputZ}
use Rattle.integers.specs.Stacks.{FrameZ, adjoins_z, open_box_z, hollow_box_z, definite_of_z, basis_below_z, inner_width_z, ItemZ, offset_xz, asked_width_z, asked_height_z}
use Rattle.profile.specs.Profile.{whole_length}
use Rattle.exact.specs.Near.{Near, nought, wide, plus_is, minus_is, MayIs, none_is, or_else_is, or_zero_is, is_some_is, sub_opt_is, neg_opt_is, clamp_opt_is, floor_opt_is}
use Rattle.exact.specs.Read.{length_z, style_z}
use Rattle.exact.specs.Boxes.{no, RectIs, SizeIs, BoxIs, both_across, both_down, near_cond, inset_across, inset_down}
use Rattle.exact.specs.Widths.{AvailableIs}
use Rattle.exact.specs.Tall.{Tall, same, tall_larger, tall_clamped, tall_unwrap}

-- ---- a question: w bounds the widths
pub record InputIs (w : ℕ) (q : LayoutInput) (z : InputZ) : Type 0 where
  pub known : SizeIs q.known z.known w 5120
  pub parent : MayIs 1048576 q.parent z.parent
  pub basis : MayIs 10240 q.basis z.basis
  pub definite : q.definiteHeight ≡ z.definiteHeight
  pub available : AvailableIs w q.available z.available
  pub start : q.collapseStart ≡ z.collapseStart
  pub end : q.collapseEnd ≡ z.collapseEnd
  pub nested : q.nested ≡ z.nested

-- ---- a frame
pub record FrameIs (w : ℕ) (f : Frame) (z : FrameZ) : Type 0 where
  pub width : Near f.width z.width w
  pub height : MayIs 5120 f.height z.height
  pub inset : RectIs f.inset z.inset 2048 3072 3072
  pub floor : Near f.floor z.floor 4096
  pub least : MayIs 5120 f.minHeight z.minHeight
  pub most : MayIs 5120 f.maxHeight z.maxHeight
  pub basis : MayIs 10240 f.heightBasis z.heightBasis
  pub ownStart : f.ownStart ≡ z.ownStart
  pub ownEnd : f.ownEnd ≡ z.ownEnd
  pub hollow : f.hollow ≡ z.hollow
  pub rtl : f.rtl ≡ z.rtl

pub plain_is : (s : Style) → plain_block s ≡ plain_block_z (style_z s)
unfolding plain_block plain_block_z new_context new_context_z flow_of flow_z style_z
plain_is s = refl

pub adjoins_is : (s : Style) {a b : Bool} {x y : Float} {j k : ℤ} {n m : ℕ} → a ≡ b → Near x j n → Near y k m → adjoins s a x y ≡ adjoins_z (style_z s) b j k
unfolding adjoins adjoins_z
adjoins_is s e p q = rw (e, plain_is s, within_eq p nought, within_eq q nought)

open_is : {a b : Rect Float} {j k : RectZ} → RectIs a j 1024 1024 1024 → RectIs b k 1024 1024 1024 → open_box a b ≡ open_box_z j k
unfolding open_box open_box_z
open_is p q = rw (within_lt nought p.top, within_lt nought p.bottom, within_lt nought q.top, within_lt nought q.bottom)

pub hollow_is : (s : Style) {t u : Bool} {a b : Rect Float} {j k : RectZ} → t ≡ u → RectIs a j 1024 1024 1024 → RectIs b k 1024 1024 1024 → hollow_box s t a b ≡ hollow_box_z (style_z s) u j k
unfolding hollow_box hollow_box_z
hollow_is s e p q = rw (e, plain_is s, open_is p q)

pub own_end_is : (s : Style) {a b : Bool} {x y : Float} {j k : ℤ} {n m r : ℕ} {o : Option Float} {c : MayZ} → a ≡ b → Near x j n → Near y k m → MayIs r o c → own_end_of s a x y o ≡ (adjoins_z (style_z s) b j k && not (is_some_z c))
unfolding own_end_of
own_end_is s e p q r = rw (adjoins_is s e p q, is_some_is r)

may_cond : (t : Bool) {n : ℕ} {o : Option Float} {a : MayZ} → MayIs n o a → MayIs n (cond t None o) (cond t NoneZ a)
may_cond true p = none_is
may_cond false p = p

definite_of_is : {w : ℕ} {q : LayoutInput} {z : InputZ} {o : Option Float} {a : MayZ} → InputIs w q z → MayIs 5120 o a → MayIs 5120 (definite_of q o) (definite_of_z z a)
unfolding definite_of definite_of_z
definite_of_is {w} {q} {z} p r = rw (is_some_is p.known.height, p.definite) (may_cond (is_some_z z.known.height && not z.definiteHeight) r)

pub basis_is : {w u : ℕ} {q : LayoutInput} {z : InputZ} {o : Size (Option Float)} {a : SizeMay} {r : Rect Float} {k : RectZ} → InputIs w q z → SizeIs o a u 5120 → RectIs r k 2048 3072 3072 → MayIs 10240 (basis_below q o r) (basis_below_z z a k)
unfolding basis_below basis_below_z
basis_is p s r = sub_opt_is (definite_of_is p s.height) (inset_down r) (lit≤ tt)

pub rtl_is : (s : Style) → s.rtl ≡ (style_z s).rtl
unfolding style_z
rtl_is s = refl

-- ---- a child of the stack
pub inner_is : {w : ℕ} {f : Frame} {z : FrameZ} → FrameIs w f z → w + 6144 ≤ 2 ^ 24 → Near (inner_width f) (inner_width_z z) (w + 6144)
unfolding inner_width inner_width_z
inner_is p u = minus_is p.width (inset_across p.inset) u

pub record PointIs (n m : ℕ) (p : Point Float) (z : PointZ) : Type 0 where
  pub x : Near p.x z.x n
  pub y : Near p.y z.y m

pub record ItemIs (i : BlockItem) (z : ItemZ) : Type 0 where
  pub sizing : BoxIs i.sizing z.sizing
  pub margin : RectIs i.margin z.margin 1024 1024 1024
  pub left : i.left ≡ z.left
  pub right : i.right ≡ z.right
  pub sides : (i.left && i.right) ≡ false
  pub offset : PointIs 1024 1024 i.offset z.offset

pub offset_x_is : (t : Bool) {l r : Option Float} {a b : MayZ} → MayIs 1024 l a → MayIs 1024 r b → Near (offset_x l r t) (offset_xz a b t) 1024
unfolding offset_x offset_xz
offset_x_is t p q = near_cond t (or_zero_is (or_else_is (neg_opt_is q) p)) (or_zero_is (or_else_is p (neg_opt_is q)))

pub auto_is : (l : Length) → whole_length l ≡ true → is_auto l ≡ not (is_some_z (length_z l))
unfolding is_auto is_some_z
auto_is Auto e = refl
auto_is (Pixels x) e = refl
auto_is (Fraction f) e = no e

-- both side margins
pub margins_across : {r : Rect Float} {k : RectZ} → RectIs r k 1024 1024 1024 → Near (across r) (across_z k) 2048
unfolding across_z
margins_across p = plus_is p.left p.right (lit≤ tt)

-- a width of the style's own is short; else it is inner less margins
pub asked_width_is : {w : ℕ} {f : Frame} {z : FrameZ} {i : BlockItem} {j : ItemZ} → FrameIs w f z → ItemIs i j → w + 8192 ≤ 2 ^ 24
    → Tall (w + 6144 + 2048) (inner_width_z z -ℤ across_z j.margin) (asked_width f i) (asked_width_z z j)
unfolding asked_width asked_width_z
asked_width_is p q u =
    let m = minus_is (inner_is p (omega arith)) (margins_across q.margin) (omega arith) in
    let b = q.sizing in
    tall_larger (tall_clamped (tall_unwrap b.size.width (same m refl)) b.min.width b.max.width) (wide (both_across b.both) (lit≤ tt))

pub asked_height_is : {i : BlockItem} {j : ItemZ} → ItemIs i j → MayIs 5120 (asked_height i) (asked_height_z j)
unfolding asked_height asked_height_z
asked_height_is q =
    let b = q.sizing in
    floor_opt_is (clamp_opt_is b.size.height b.min.height b.max.height) (wide (both_down b.both) (lit≤ tt))
