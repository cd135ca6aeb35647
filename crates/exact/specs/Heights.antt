-- Steps K to N on a page of the profile, and a leaf's answer. Assumes nothing.
-- Free space is 0 where the content decides the height; else the height is at most 5120, and free space at most that and the content.
use Rattle.std.specs.Prelude.{◌≡◌, refl, Bool, true, false, cond, not, ◌&&◌, ◌||◌, ℕ, suc, ◌+◌, ◌*◌, ◌^◌, ◌≤◌, ℤ, ◌-ℤ◌, Float, Option, None}
use Rattle.std.proofs.Common.{sym, ap, ◌∙◌, arith, lit≤}
use Rattle.std.proofs.Math.IntN.{+ℤ_invr}
use Rattle.geometry.specs.Floats.{◌⊖◌}
use Rattle.geometry.specs.Geometry.{down}
use Rattle.util.specs.Maybe.{add_opt}
use Rattle.alignment.specs.Align.{room_of, align_shift}
use Rattle.style.specs.declared.AlignContent.{AlignContent}
use Rattle.style.specs.declared.AlignContent.TheVariants.{Normal, Start, Center, End, SpaceBetween, SpaceAround, SpaceEvenly, Stretch}
use Rattle.style.specs.declared.Style.{Style}
use Rattle.margin.specs.declared.CollapsibleMarginSet.{CollapsibleMarginSet}
use Rattle.steps.specs.Baseline.{shifted, block_baseline}
use Rattle.steps.specs.Height.{extra_of, step_k, step_l, held_open, still_own_end}
use Rattle.steps.specs.Through.{step_n, passed_out}
use Rattle.steps.specs.declared.Frame.{Frame}
use Rattle.steps.specs.declared.Cursor.{Cursor}
use Rattle.steps.specs.declared.Finished.{Finished}
use Rattle.whole.specs.Range.{within_lt, within_le, within_eq, zero_is}
use Rattle.integers.specs.Numbers.{MayZ, NoneZ, SetZ, add_opt_z, down_z}
use Rattle.integers.specs.Stacks.{FrameZ, CursorZ}
use Rattle.integers.specs.Heights.{extra_of_z, step_kz, step_lz, held_open_z, still_own_end_z, room_of_z, align_shift_z, shifted_z, step_nz, passed_out_z, FinishedZ}
use Rattle.profile.specs.Profile.{centers}
use Rattle.exact.specs.Near.{Near, nought, wide, plus_is, minus_is, larger_is, MayIs, none_is, some_is, wide_may}
use Rattle.exact.specs.Read.{style_z}
use Rattle.exact.specs.Boxes.{no, near_test}
use Rattle.exact.specs.Tall.{Tall, same, tall_larger, tall_clamped, tall_unwrap, cancels, closer}
use Rattle.exact.specs.Sets.{SetIs, set_of_is, sum_of_is, set_test}
use Rattle.exact.specs.Frames.{FrameIs}
use Rattle.exact.specs.Stacks.{OutAt, CursorIs, at_top_is}

or_same : {a b c d : Bool} → a ≡ b → c ≡ d → (a || c) ≡ (b || d)
or_same e h = rw (e, h)

and_same : {a b c d : Bool} → a ≡ b → c ≡ d → (a && c) ≡ (b && d)
and_same e h = rw (e, h)

-- ---- K
extra_is : {w n l : ℕ} {f : Frame} {g : FrameZ} {c : Cursor} {z : CursorZ} → FrameIs w f g → CursorIs n l c z → Near (extra_of f c) (extra_of_z g z) 1024
unfolding extra_of extra_of_z
extra_is p q = near_test (or_same p.ownEnd (at_top_is p q)) zero_is (sum_of_is q.strut)

pub step_k_is : {w n l : ℕ} {f : Frame} {g : FrameZ} {c : Cursor} {z : CursorZ} → FrameIs w f g → CursorIs n l c z → n + 4096 ≤ 2 ^ 24 → Near (step_k f c) (step_kz g z) (n + 1024 + 3072)
unfolding step_k step_kz
step_k_is p q u = larger_is zero_is (plus_is (plus_is q.y (extra_is p q) (omega arith)) p.inset.bottom (omega arith))

-- ---- L
pub step_l_is : {w n : ℕ} {f : Frame} {g : FrameZ} {x : Float} {c : ℤ} → FrameIs w f g → Near x c n → Tall n c (step_l f x) (step_lz g c)
unfolding step_l step_lz
step_l_is p q = tall_larger (tall_unwrap p.height (tall_clamped (same q refl) p.least p.most)) (wide p.floor (lit≤ tt))

held_is : {n m : ℕ} {o : Option Float} {a : MayZ} {x : Float} {k : ℤ} → MayIs n o a → Near x k m → held_open o x ≡ held_open_z a k
unfolding held_open held_open_z
held_is none_is q = refl
held_is (some_is p) q = rw (within_lt nought p, within_le q p)

pub still_is : {w n : ℕ} {f : Frame} {g : FrameZ} {x : Float} {k : ℤ} → FrameIs w f g → Near x k n → still_own_end f x ≡ still_own_end_z g k
unfolding still_own_end still_own_end_z
still_is p q = and_same p.ownEnd (ap not (held_is p.least q))

-- ---- M
abbrev pub freed : Float → Float → Float → Float
freed h i c = (h ⊖ i) ⊖ (c ⊖ i)

abbrev pub freed_z : ℤ → ℤ → ℤ → ℤ
freed_z h i c = (h -ℤ i) -ℤ (c -ℤ i)

pub free_short : {n : ℕ} {h i c : Float} {a b d : ℤ} → Near h a 5120 → Near i b 5120 → Near c d n → n + 15360 ≤ 2 ^ 24 → Near (freed h i c) (freed_z a b d) (5120 + n)
free_short {n} {h} {i} {c} {a} {b} {d} p q r u = closer (minus_is (minus_is p q (lit≤ tt)) (minus_is r q (omega arith)) (omega arith)) (cancels a b d) (minus_is p r (omega arith))

pub free_same : {n : ℕ} {h i c : Float} {a b d : ℤ} → Near h a n → a ≡ d → Near i b 5120 → Near c d n → n + n + 10240 ≤ 2 ^ 24 → Near (freed h i c) (freed_z a b d) 0
free_same {n} {h} {i} {c} {a} {b} {d} p e q r u =
    closer (minus_is (minus_is p q (omega arith)) (minus_is r q (omega arith)) (omega arith)) (cancels a b d ∙ ap (λ (z : ℤ). z -ℤ d) e ∙ +ℤ_invr d) nought

room_is : (s : Bool) {x : Float} {k : ℤ} {n : ℕ} → Near x k n → Near (room_of s x) (room_of_z s k) n
unfolding room_of room_of_z
room_is s p = near_test (ap (λ (t : Bool). s && t) (within_lt p nought)) zero_is p

pub align_is : (a : AlignContent) (s : Bool) {x : Float} {k : ℤ} {n : ℕ} → centers a ≡ false → Near x k n → MayIs n (align_shift a s x) (align_shift_z a s k)
unfolding align_shift align_shift_z
align_is Normal s e p = none_is
align_is Start s e p = none_is
align_is Center s e p = no (sym e)
align_is End s e p = some_is (room_is s p)
align_is SpaceBetween s e p = none_is
align_is SpaceAround s e p = no (sym e)
align_is SpaceEvenly s e p = no (sym e)
align_is Stretch s e p = none_is

abbrev pub free_in : Frame → Float → Float → Float
free_in f h c = freed h (down f.inset) c

abbrev pub free_in_z : FrameZ → ℤ → ℤ → ℤ
free_in_z f h c = freed_z h (down_z f.inset) c

shifted_is : {n m : ℕ} {o d : Option Float} {a b : MayZ} → MayIs n o a → MayIs m d b → n + m ≤ 2 ^ 24 → MayIs (n + m) (shifted o d) (shifted_z a b)
unfolding shifted shifted_z add_opt add_opt_z
shifted_is p none_is u = wide_may p (omega arith)
shifted_is none_is (some_is q) u = none_is
shifted_is (some_is p) (some_is q) u = some_is (plus_is p q u)

line_cond : (t : Bool) {n : ℕ} {o : Option Float} {a : MayZ} → MayIs n o a → MayIs n (cond t None o) (cond t NoneZ a)
line_cond true p = none_is
line_cond false p = p

pub block_line_is : (s : Style) {n m : ℕ} {o d : Option Float} {a b : MayZ} → MayIs n o a → MayIs m d b → n + m ≤ 2 ^ 24 → MayIs (n + m) (block_baseline s o d) (cond (style_z s).contained NoneZ (shifted_z a b))
unfolding block_baseline style_z
block_line_is s p q u = line_cond s.contained (shifted_is p q u)

-- ---- N
pub step_n_is : {w n l m : ℕ} {f : Frame} {g : FrameZ} {c : Cursor} {z : CursorZ} {x : Float} {k : ℤ} → FrameIs w f g → CursorIs n l c z → Near x k m → step_n f c x ≡ step_nz g z k
unfolding step_n step_nz
step_n_is p q r = and_same p.hollow (and_same (within_eq r nought) q.through)

pub passed_is : {s t : Bool} {a : CollapsibleMarginSet} {k : SetZ} {x : Float} {j : ℤ} → s ≡ t → SetIs a k → Near x j 1024 → SetIs (passed_out s a x) (passed_out_z t k j)
unfolding passed_out passed_out_z
passed_is e p q = set_test e p (set_of_is q)

-- K to N: k nodes and D levels below; l bounds the lines of the stack, which the shift moves by `by` at most
pub record FinishedAt (w k D l : ℕ) (d : Finished) (z : FinishedZ) : Type 0 where
  pub output : OutAt w (suc k) (suc D) d.output z.output
  pub by : ℕ
  pub shift : MayIs by d.shift z.shift
  pub near : by ≤ 11264 + 7168 * k
  pub lined : l + by ≤ output.line
