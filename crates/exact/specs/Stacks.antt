-- Step J for one child, on a page of the profile: its place, and the cursor past it. Assumes nothing.
-- K nodes are stacked so far, D levels lie below: y stays within 2048 + 7168 K, and y with the first baseline within 7168 + 14336 K + 7168 D.
use Rattle.std.specs.Option.{option_or}
use Rattle.std.specs.Prelude.{◌≡◌, refl, Bool, true, false, cond, ◌&&◌, ℕ, ◌+◌, ◌-◌, ◌*◌, ◌^◌, ◌≤◌, ℤ, pos, ◌+ℤ◌, ◌-ℤ◌, Float, Option}
use Rattle.std.proofs.Common.{sym, ap, ◌∙◌, arith, lit≤}
use Rattle.std.proofs.Math.IntN.{+ℤ_comm, +ℤ_idr, +ℤ_invr}
use Rattle.geometry.specs.Floats.{◌⊖◌}
use Rattle.margin.specs.declared.CollapsibleMarginSet.{CollapsibleMarginSet}
use Rattle.steps.specs.Baseline.{at_place, baseline_past}
use Rattle.steps.specs.Stack.{start_of, top_margins, bottom_margins, at_top, gap_of, free_of, share_of, place_x, place_y, place_of, past_through, past_box, stepped, line_of, past_aside, past_hidden}
use Rattle.steps.specs.declared.LayoutOutput.{LayoutOutput}
use Rattle.steps.specs.declared.Frame.{Frame}
use Rattle.steps.specs.declared.BlockItem.{BlockItem}
use Rattle.steps.specs.declared.Cursor.{Cursor}
use Rattle.whole.specs.More.{max_z}
use Rattle.whole.specs.Range.{zero_is}
use Rattle.integers.specs.Numbers.{MayZ, SetZ, or_else_z, across_z}
use Rattle.integers.specs.Rows.{OutputZ}
use Rattle.integers.specs.Stacks.{FrameZ, ItemZ, CursorZ, inner_width_z, start_of_z, top_margins_z, bottom_margins_z, at_top_z, gap_of_z, free_of_z, share_of_z, place_xz, place_yz, place_of_z, at_place_z, baseline_past_z, past_through_z, past_box_z, stepped_z, line_of_z, past_aside_z, past_hidden_z}
use Rattle.exact.specs.Near.{Near, nought, wide, plus_is, minus_is, larger_is, MayIs, none_is, some_is, wide_may}
use Rattle.exact.specs.Boxes.{no, near_test}
use Rattle.exact.specs.Tall.{closer, sub_sum, flips}
use Rattle.exact.specs.Sets.{SetIs, no_margins_is, joined_is, joined_with_is, sum_of_is, set_test}
use Rattle.exact.specs.Frames.{FrameIs, inner_is, PointIs, ItemIs, margins_across}

-- ---- an answer: w bounds the width, h the height, l the baseline
pub record OutIs (w h l : ℕ) (o : LayoutOutput) (z : OutputZ) : Type 0 where
  pub width : Near o.size.width z.size.width w
  pub height : Near o.size.height z.size.height h
  pub top : SetIs o.top z.top
  pub bottom : SetIs o.bottom z.bottom
  pub through : o.through ≡ z.through
  pub baseline : MayIs l o.baseline z.baseline

-- an answer of a subtree of k nodes, with D levels
pub record OutAt (w k D : ℕ) (o : LayoutOutput) (z : OutputZ) : Type 0 where
  pub tall : ℕ
  pub line : ℕ
  pub is : OutIs w tall line o z
  pub low : tall + 1024 ≤ 7168 * k
  pub sum : tall + line ≤ 14336 * k + 7168 * D

-- ---- a cursor: n bounds y, l the first baseline
pub record CursorIs (n l : ℕ) (c : Cursor) (z : CursorZ) : Type 0 where
  pub y : Near c.y z.y n
  pub strut : SetIs c.strut z.strut
  pub top : SetIs c.top z.top
  pub first : c.first ≡ z.first
  pub through : c.allThrough ≡ z.allThrough
  pub baseline : MayIs l c.baseline z.baseline
  pub shown : c.shown.0 ≡ z.shown
  pub count : c.count ≡ z.count

pub record CursorAt (k D : ℕ) (c : Cursor) (z : CursorZ) : Type 0 where
  pub reach : ℕ
  pub line : ℕ
  pub is : CursorIs reach line c z
  pub low : reach ≤ 2048 + 7168 * k
  pub sum : line + reach ≤ 7168 + 14336 * k + 7168 * D

-- a cursor past j more nodes: the bound of the lines did not fall below l, and reaches n
pub record Past (k j D l n : ℕ) (c : Cursor) (z : CursorZ) : Type 0 where
  pub next : CursorAt (k + j) D c z
  pub grows : l ≤ next.line
  pub covers : n ≤ next.line

pub start_is : {w : ℕ} {f : Frame} {z : FrameZ} (D : ℕ) → FrameIs w f z → CursorAt 0 D (start_of f) (start_of_z z)
unfolding start_of start_of_z
start_is D p =
    record {
      reach = 2048;
      line = 0;
      is = record { y = p.inset.top; strut = no_margins_is; top = no_margins_is; first = refl; through = refl; baseline = none_is; shown = refl; count = refl };
      low = omega arith;
      sum = omega arith;
    }

-- ---- gap and place
top_margins_is : {w h l : ℕ} {i : BlockItem} {j : ItemZ} {o : LayoutOutput} {z : OutputZ} → ItemIs i j → OutIs w h l o z → SetIs (top_margins i o) (top_margins_z j z)
unfolding top_margins top_margins_z
top_margins_is p q = joined_with_is q.top p.margin.top

bottom_margins_is : {w h l : ℕ} {i : BlockItem} {j : ItemZ} {o : LayoutOutput} {z : OutputZ} → ItemIs i j → OutIs w h l o z → SetIs (bottom_margins i o) (bottom_margins_z j z)
unfolding bottom_margins bottom_margins_z
bottom_margins_is p q = joined_with_is q.bottom p.margin.bottom

pub at_top_is : {w n l : ℕ} {f : Frame} {g : FrameZ} {c : Cursor} {z : CursorZ} → FrameIs w f g → CursorIs n l c z → at_top f c ≡ at_top_z g z
unfolding at_top at_top_z
at_top_is p q = rw (q.first, p.ownStart)

gap_is : {w n l : ℕ} {f : Frame} {g : FrameZ} {c : Cursor} {z : CursorZ} {t : CollapsibleMarginSet} {u : SetZ} → FrameIs w f g → CursorIs n l c z → SetIs t u → Near (gap_of f c t) (gap_of_z g z u) 1024
unfolding gap_of gap_of_z
gap_is p q r = near_test (at_top_is p q) zero_is (sum_of_is (joined_is q.strut r))

free_is : {w v : ℕ} {f : Frame} {g : FrameZ} {i : BlockItem} {j : ItemZ} {x : Float} {k : ℤ} → FrameIs w f g → ItemIs i j → Near x k v → w + v + 8192 ≤ 2 ^ 24 → Near (free_of f i x) (free_of_z g j k) (w + 6144 + v + 2048)
unfolding free_of free_of_z
free_is p q r u = larger_is zero_is (minus_is (minus_is (inner_is p (omega arith)) r (omega arith)) (margins_across q.margin) (omega arith))

share_by : (a b : Bool) {x y : Float} {j k : ℤ} {n : ℕ} → (a && b) ≡ false → Near x j n → Near y k n → Near (share_of a b x y) (share_of_z a j k) n
unfolding share_of share_of_z
share_by true true e p q = no (sym e)
share_by true false e p q = q
share_by false b e p q = p

share_is : (a b : Bool) {c : Bool} {x y : Float} {j k : ℤ} {n : ℕ} → a ≡ c → (a && b) ≡ false → Near x j n → Near y k n → Near (share_of a b x y) (share_of_z c j k) n
share_is a b d e p q = rw (← d) (share_by a b e p q)

swap_false : (a b : Bool) → (a && b) ≡ false → (b && a) ≡ false
swap_false true true e = e
swap_false true false e = refl
swap_false false true e = refl
swap_false false false e = refl

place_x_is : {w v : ℕ} {f : Frame} {g : FrameZ} {i : BlockItem} {j : ItemZ} {x : Float} {k : ℤ} → FrameIs w f g → ItemIs i j → Near x k v → w + w + v + v + 20480 ≤ 2 ^ 24 → Near (place_x f i x) (place_xz g j k) (w + w + v + v + 20480)
unfolding place_x place_xz
place_x_is {w} {v} {f} {g} {i} {j} p q r u =
    let free = free_is p q r (omega arith) in
    let right = share_is i.right i.left q.right (swap_false i.left i.right q.sides) (wide q.margin.right (omega arith)) free in
    let left = share_is i.left i.right q.left q.sides (wide q.margin.left (omega arith)) free in
    near_test p.rtl
    (wide (plus_is (minus_is (minus_is (minus_is p.width p.inset.right (omega arith)) right (omega arith)) r (omega arith)) q.offset.x (omega arith)) (omega arith))
    (wide (plus_is (plus_is p.inset.left left (omega arith)) q.offset.x (omega arith)) (omega arith))

-- a child that fills its line, at w = inner - margins: no space is free, and place x is short
fills : (i m : ℤ) → (i -ℤ (i -ℤ m)) -ℤ m ≡ pos 0
fills i m = ap (λ (z : ℤ). z -ℤ m) (ap (λ (z : ℤ). z -ℤ (i -ℤ m)) (sym (+ℤ_idr i)) ∙ flips i (pos 0) m ∙ +ℤ_idr m) ∙ +ℤ_invr m

free_filled : {w v : ℕ} {f : Frame} {g : FrameZ} {i : BlockItem} {j : ItemZ} {x : Float} {k : ℤ} → FrameIs w f g → ItemIs i j → Near x k v → w + v + 8192 ≤ 2 ^ 24 → k ≡ inner_width_z g -ℤ across_z j.margin → Near (free_of f i x) (free_of_z g j k) 0
unfolding free_of_z
free_filled {w} {v} {f} {g} {i} {j} {x} {k} p q r u e =
    closer (free_is p q r u) (ap (λ (z : ℤ). max_z (pos 0) ((inner_width_z g -ℤ z) -ℤ across_z j.margin)) e ∙ ap (max_z (pos 0)) (fills (inner_width_z g) (across_z j.margin))) nought

-- ((W - r) - right) - ((W - (l + r)) - m) = (l + m) - right
rights : (w l r m x : ℤ) → ((w -ℤ r) -ℤ x) -ℤ ((w -ℤ (l +ℤ r)) -ℤ m) ≡ (l +ℤ m) -ℤ x
rights w l r m x =
    ap (λ (z : ℤ). ((w -ℤ r) -ℤ x) -ℤ (z -ℤ m)) (ap (λ (z : ℤ). w -ℤ z) (+ℤ_comm l r) ∙ sub_sum w r l)
    ∙ ap (λ (z : ℤ). ((w -ℤ r) -ℤ x) -ℤ z) (sym (sub_sum (w -ℤ r) l m))
    ∙ flips (w -ℤ r) x (l +ℤ m)

right_filled : {w v : ℕ} {f : Frame} {g : FrameZ} {i : BlockItem} {j : ItemZ} {x y : Float} {k a : ℤ} → FrameIs w f g → ItemIs i j → Near x k v → Near y a 1024 → w + v + 8192 ≤ 2 ^ 24 → k ≡ inner_width_z g -ℤ across_z j.margin
    → Near (((f.width ⊖ f.inset.right) ⊖ y) ⊖ x) (((g.width -ℤ g.inset.right) -ℤ a) -ℤ k) 6144
unfolding inner_width_z across_z
right_filled {w} {v} {f} {g} {i} {j} {x} {y} {k} {a} p q r s u e =
    closer (minus_is (minus_is (minus_is p.width p.inset.right (omega arith)) s (omega arith)) r (omega arith))
    (ap (λ (z : ℤ). ((g.width -ℤ g.inset.right) -ℤ a) -ℤ z) e ∙ rights g.width g.inset.left g.inset.right (j.margin.left +ℤ j.margin.right) a)
    (minus_is (plus_is p.inset.left (plus_is q.margin.left q.margin.right (lit≤ tt)) (lit≤ tt)) s (lit≤ tt))

place_x_filled : {w v : ℕ} {f : Frame} {g : FrameZ} {i : BlockItem} {j : ItemZ} {x : Float} {k : ℤ} → FrameIs w f g → ItemIs i j → Near x k v → w + v + 8192 ≤ 2 ^ 24 → k ≡ inner_width_z g -ℤ across_z j.margin → Near (place_x f i x) (place_xz g j k) 7168
unfolding place_x place_xz
place_x_filled {w} {v} {f} {g} {i} {j} p q r u e =
    let free = wide {r = 1024} (free_filled p q r u e) (lit≤ tt) in
    let right = share_is i.right i.left q.right (swap_false i.left i.right q.sides) q.margin.right free in
    let left = share_is i.left i.right q.left q.sides q.margin.left free in
    near_test p.rtl (plus_is (right_filled p q r right u e) q.offset.x (lit≤ tt)) (wide (plus_is (plus_is p.inset.left left (lit≤ tt)) q.offset.x (lit≤ tt)) (lit≤ tt))

place_y_is : {w n l a b d : ℕ} {f : Frame} {g : FrameZ} {c : Cursor} {z : CursorZ} {i : BlockItem} {j : ItemZ} {o : LayoutOutput} {y : OutputZ} → FrameIs w f g → CursorIs n l c z → ItemIs i j → OutIs a b d o y → n + 2048 ≤ 2 ^ 24
    → Near (place_y f c i o) (place_yz g z j y) (n + 2048)
unfolding place_y place_yz
place_y_is p q r s u = wide (plus_is (plus_is q.y (gap_is p q (top_margins_is r s)) (omega arith)) r.offset.y (omega arith)) (omega arith)

-- place x is within 2 w + 30720 for a short child, within 7168 for one that fills its line
pub place_short : {w n l b d : ℕ} {f : Frame} {g : FrameZ} {c : Cursor} {z : CursorZ} {i : BlockItem} {j : ItemZ} {o : LayoutOutput} {y : OutputZ} → FrameIs w f g → CursorIs n l c z → ItemIs i j → OutIs 5120 b d o y → w + w + 30720 ≤ 2 ^ 24 → n + 2048 ≤ 2 ^ 24
    → PointIs (w + w + 30720) (n + 2048) (place_of f c i o) (place_of_z g z j y)
unfolding place_of place_of_z
place_short p q r s u v = record { x = wide (place_x_is p r s.width (omega arith)) (omega arith); y = place_y_is p q r s v }

pub place_filled : {w n l a b d : ℕ} {f : Frame} {g : FrameZ} {c : Cursor} {z : CursorZ} {i : BlockItem} {j : ItemZ} {o : LayoutOutput} {y : OutputZ} → FrameIs w f g → CursorIs n l c z → ItemIs i j → OutIs a b d o y → w + a + 8192 ≤ 2 ^ 24 → n + 2048 ≤ 2 ^ 24
    → y.size.width ≡ inner_width_z g -ℤ across_z j.margin → PointIs 7168 (n + 2048) (place_of f c i o) (place_of_z g z j y)
unfolding place_of place_of_z
place_filled p q r s u v e = record { x = place_x_filled p r s.width u e; y = place_y_is p q r s v }

-- ---- the first baseline
at_place_is : {n l m : ℕ} {y : Float} {k : ℤ} {o : Option Float} {a : MayZ} → Near y k n → MayIs l o a → n + l ≤ m → m ≤ 2 ^ 24 → MayIs m (at_place y o) (at_place_z k a)
unfolding at_place at_place_z
at_place_is p none_is u v = none_is
at_place_is p (some_is q) u v = some_is (wide (plus_is p q (omega arith)) u)

baseline_is : {n l m r : ℕ} {y : Float} {k : ℤ} {o b : Option Float} {a c : MayZ} → MayIs r b c → Near y k n → MayIs l o a → r ≤ m → n + l ≤ m → m ≤ 2 ^ 24 → MayIs m (baseline_past b y o) (baseline_past_z c k a)
unfolding baseline_past baseline_past_z or_else_z
baseline_is none_is p q t u v = at_place_is p q u v
baseline_is (some_is x) p q t u v = some_is (wide x t)

-- ---- the cursor past a child
through_is : {n l r m : ℕ} {c : Cursor} {z : CursorZ} {t b : CollapsibleMarginSet} {u d : SetZ} {o : Option Float} {a : MayZ} → CursorIs n l c z → SetIs t u → SetIs b d → MayIs m o a → n ≤ r → CursorIs r m (past_through c t b o) (past_through_z z u d a)
unfolding past_through past_through_z
through_is p q s o v =
    record {
      y = wide p.y v;
      strut = joined_is (joined_is p.strut q) s;
      top = set_test p.first (joined_is (joined_is p.top q) s) p.top;
      first = p.first;
      through = p.through;
      baseline = o;
      shown = ap (λ (k : ℕ). k + 1) p.shown;
      count = ap (λ (k : ℕ). k + 1) p.count;
    }

box_past_is : {w n l m h : ℕ} {f : Frame} {g : FrameZ} {c : Cursor} {z : CursorZ} {t b : CollapsibleMarginSet} {u d : SetZ} {x : Float} {k : ℤ} {o : Option Float} {a : MayZ} → FrameIs w f g → CursorIs n l c z → SetIs t u → SetIs b d → Near x k h → MayIs m o a → n + 1024 + h ≤ 2 ^ 24
    → CursorIs (n + 1024 + h) m (past_box f c t b x o) (past_box_z g z u d k a)
unfolding past_box past_box_z
box_past_is e p q s r o v =
    record {
      y = plus_is (plus_is p.y (gap_is e p q) (omega arith)) r v;
      strut = s;
      top = set_test p.first (joined_is p.top q) p.top;
      first = refl;
      through = refl;
      baseline = o;
      shown = ap (λ (k : ℕ). k + 1) p.shown;
      count = ap (λ (k : ℕ). k + 1) p.count;
    }

cursor_cond : (t : Bool) {n m : ℕ} {c d : Cursor} {z y : CursorZ} → CursorIs n m c z → CursorIs n m d y → CursorIs n m (cond t c d) (cond t z y)
cursor_cond true p q = p
cursor_cond false p q = q

cursor_test : {s t : Bool} {n m : ℕ} {c d : Cursor} {z y : CursorZ} → s ≡ t → CursorIs n m c z → CursorIs n m d y → CursorIs n m (cond s c d) (cond t z y)
cursor_test {s} {t} e p q = rw e (cursor_cond t p q)

stepped_by : {w v n l h s m : ℕ} {f : Frame} {g : FrameZ} {c : Cursor} {z : CursorZ} {i : BlockItem} {j : ItemZ} {o : LayoutOutput} {y : OutputZ} → FrameIs w f g → CursorIs n l c z → ItemIs i j → OutIs v h s o y
    → n + 1024 + h ≤ 2 ^ 24 → n + 2048 ≤ 2 ^ 24 → l ≤ m → n + 2048 + s ≤ m → m ≤ 2 ^ 24 → CursorIs (n + 1024 + h) m (stepped f c i o) (stepped_z g z j y)
unfolding stepped stepped_z
stepped_by p q r e a b t u x =
    let base = baseline_is q.baseline (place_y_is p q r e b) e.baseline t u x in
    cursor_test e.through (through_is q (top_margins_is r e) (bottom_margins_is r e) base (omega arith)) (box_past_is p q (top_margins_is r e) (bottom_margins_is r e) e.height base a)

pub stepped_is : {w v : ℕ} (k j D : ℕ) {f : Frame} {g : FrameZ} {c : Cursor} {z : CursorZ} {i : BlockItem} {m : ItemZ} {o : LayoutOutput} {y : OutputZ} → FrameIs w f g → (q : CursorAt k D c z) → ItemIs i m → (e : OutAt v j D o y) → k + j ≤ 1024 → D ≤ 32
    → Past k j D q.line (q.reach + 2048 + e.line) (stepped f c i o) (stepped_z g z m y)
stepped_is k j D p q r e u v =
    let reach = q.reach in
    let line = q.line in
    let tall = e.tall in
    let own = e.line in
    let a = q.low in
    let b = q.sum in
    let s = e.low in
    let t = e.sum in
    record {
      next =
          record {
            reach = reach + 1024 + tall;
            line = 7168 + 14336 * (k + j) + 7168 * D - (reach + 1024 + tall);
            is = stepped_by p q.is r e.is (omega arith) (omega arith) (omega arith) (omega arith) (omega arith);
            low = omega arith;
            sum = omega arith;
          };
      grows = omega arith;
      covers = omega arith;
    }

-- ---- past the others
pub aside_past_is : (k j D : ℕ) {c : Cursor} {z : CursorZ} → (p : CursorAt k D c z) → 1 ≤ j → k + j ≤ 1024 → D ≤ 32 → Past k j D p.line (p.reach + 1024) (past_aside c) (past_aside_z z)
unfolding past_aside past_aside_z
aside_past_is k j D p u v w =
    let q = p.is in
    let reach = p.reach in
    let line = p.line in
    let a = p.low in
    let b = p.sum in
    record {
      next =
          record {
            reach = reach;
            line = 7168 + 14336 * (k + j) + 7168 * D - reach;
            is = record { y = q.y; strut = q.strut; top = q.top; first = q.first; through = q.through; baseline = wide_may q.baseline (omega arith); shown = ap (λ (k : ℕ). k + 1) q.shown; count = ap (λ (k : ℕ). k + 1) q.count };
            low = omega arith;
            sum = omega arith;
          };
      grows = omega arith;
      covers = omega arith;
    }

pub hidden_past_is : (k j D : ℕ) {c : Cursor} {z : CursorZ} → (p : CursorAt k D c z) → Past k j D p.line 0 (past_hidden c) (past_hidden_z z)
unfolding past_hidden past_hidden_z
hidden_past_is k j D p =
    let q = p.is in
    let line = p.line in
    let a = p.low in
    let b = p.sum in
    record {
      next =
          record {
            reach = p.reach;
            line = p.line;
            is = record { y = q.y; strut = q.strut; top = q.top; first = q.first; through = q.through; baseline = q.baseline; shown = q.shown; count = ap (λ (k : ℕ). k + 1) q.count };
            low = omega arith;
            sum = omega arith;
          };
      grows = omega arith;
      covers = omega arith;
    }

pub line_is : {w n l : ℕ} {f : Frame} {g : FrameZ} {c : Cursor} {z : CursorZ} → FrameIs w f g → CursorIs n l c z → n + 1024 ≤ 2 ^ 24 → Near (line_of f c) (line_of_z g z) (n + 1024)
unfolding line_of line_of_z
line_is p q u = plus_is q.y (near_test (at_top_is p q) zero_is (sum_of_is q.strut)) u
