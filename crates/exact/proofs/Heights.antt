-- Steps K to N on a page of the profile, and a leaf's answer. Assumes nothing.
-- Free space is 0 where the content decides the height; else the height is at most 5120, and free space at most that and the content.
use Rattle.std.specs.Prelude.{◌≡◌, refl, ℕ, suc, ◌+◌, ◌^◌, ◌≤◌, ℤ, Float, Option}
use Rattle.std.proofs.Common.{arith, lit≤}
use Rattle.length.specs.Length.{resolved_or_zero}
use Rattle.style.specs.declared.Style.{Style}
use Rattle.steps.specs.Height.{step_m}
use Rattle.steps.specs.Through.{output_of, finished, leaf_output}
use Rattle.steps.specs.declared.LayoutInput.{LayoutInput}
use Rattle.steps.specs.declared.Frame.{Frame}
use Rattle.steps.specs.declared.Cursor.{Cursor}
use Rattle.integers.specs.Numbers.{MayZ, or_zero_z}
use Rattle.integers.specs.Styles.{InputZ}
use Rattle.integers.specs.Stacks.{FrameZ, CursorZ}
use Rattle.integers.specs.Heights.{step_mz, output_of_z, finished_z, leaf_output_z}
use Rattle.profile.specs.Page.{InProfile}
use Rattle.exact.specs.Near.{Near, wide, MayIs, unwrap_is}
use Rattle.exact.specs.Read.{measure_z, style_z}
use Rattle.exact.specs.Boxes.{pixel_is, inset_down}
use Rattle.exact.proofs.Boxes.{option_is, length_or_zero}
use Rattle.exact.proofs.Widths.{leaf_width_is}
use Rattle.exact.specs.Tall.{Tall, short, same}
use Rattle.exact.specs.Sets.{no_margins_is}
use Rattle.exact.specs.Frames.{InputIs, FrameIs}
use Rattle.exact.specs.Stacks.{OutIs, OutAt, CursorIs, CursorAt}
use Rattle.exact.specs.Heights.{step_k_is, step_l_is, still_is, free_short, free_same, align_is, free_in, free_in_z, block_line_is, step_n_is, passed_is, FinishedAt}

step_m_is : (s : Style) (f : Frame) (g : FrameZ) (h c : Float) (a b : ℤ) {n : ℕ} → InProfile s → Near (free_in f h c) (free_in_z g a b) n → MayIs n (step_m s f h c) (step_mz (style_z s) g a b)
unfolding step_m step_mz style_z
step_m_is s f g h c a b p q = align_is s.align s.safe p.aligned q

own_top_lem : (s : Style) (b : Option Float) → InProfile s → Near (resolved_or_zero s.margin.top b) (or_zero_z (style_z s).margin.top) 1024
unfolding style_z
own_top_lem s b p = length_or_zero s.margin.top b p.margin.top

own_bottom : (s : Style) (b : Option Float) → InProfile s → Near (resolved_or_zero s.margin.bottom b) (or_zero_z (style_z s).margin.bottom) 1024
unfolding style_z
own_bottom s b p = length_or_zero s.margin.bottom b p.margin.bottom

output_is : (s : Style) (q : LayoutInput) {w n l h m : ℕ} {f : Frame} {g : FrameZ} {c : Cursor} {z : CursorZ} {x : Float} {k : ℤ} {d : Option Float} {b : MayZ} → InProfile s → FrameIs w f g → CursorIs n l c z → Near x k h → MayIs m d b → l + m ≤ 2 ^ 24
    → OutIs w h (l + m) (output_of s q f c x d) (output_of_z (style_z s) g z k b)
unfolding output_of output_of_z
output_is s q p f c x d u =
    record {
      width = f.width;
      height = x;
      top = passed_is f.ownStart c.top (own_top_lem s q.parent p);
      bottom = passed_is (still_is f x) c.strut (own_bottom s q.parent p);
      through = step_n_is f c x;
      baseline = block_line_is s c.baseline d u;
    }

finish_short : (s : Style) (q : LayoutInput) (k D : ℕ) {w : ℕ} {f : Frame} {g : FrameZ} {c : Cursor} {z : CursorZ} {h x : Float} {a b : ℤ} → InProfile s → FrameIs w f g → (p : CursorAt k D c z) → Near x b (p.reach + 1024 + 3072) → k ≤ 1023 → D ≤ 31 → Near h a 5120
    → FinishedAt w k D p.line (record { output = output_of s q f c h (step_m s f h x); shift = step_m s f h x }) (record { output = output_of_z (style_z s) g z a (step_mz (style_z s) g a b); shift = step_mz (style_z s) g a b })
finish_short s q k D {w} {f} {g} {c} {z} {h} {x} {a} {b} i r p t u v y =
    let n = p.reach in
    let l = p.line in
    let e = p.low in
    let j = p.sum in
    let m : MayIs (5120 + (n + 1024 + 3072)) (step_m s f h x) (step_mz (style_z s) g a b) = step_m_is s f g h x a b i (free_short y (inset_down r.inset) t (omega arith)) in
    record {
      output = record { tall = 5120; line = l + (5120 + (n + 1024 + 3072)); is = output_is s q i r p.is y m (omega arith); low = omega arith; sum = omega arith };
      by = 5120 + (n + 1024 + 3072);
      shift = m;
      near = omega arith;
      lined = omega arith;
    }

finish_same : (s : Style) (q : LayoutInput) (k D : ℕ) {w : ℕ} {f : Frame} {g : FrameZ} {c : Cursor} {z : CursorZ} {h x : Float} {a b : ℤ} → InProfile s → FrameIs w f g → (p : CursorAt k D c z) → Near x b (p.reach + 1024 + 3072) → k ≤ 1023 → D ≤ 31 → Near h a (p.reach + 1024 + 3072) → a ≡ b
    → FinishedAt w k D p.line (record { output = output_of s q f c h (step_m s f h x); shift = step_m s f h x }) (record { output = output_of_z (style_z s) g z a (step_mz (style_z s) g a b); shift = step_mz (style_z s) g a b })
finish_same s q k D {w} {f} {g} {c} {z} {h} {x} {a} {b} i r p t u v y o =
    let n = p.reach in
    let l = p.line in
    let e = p.low in
    let j = p.sum in
    let m : MayIs 0 (step_m s f h x) (step_mz (style_z s) g a b) = step_m_is s f g h x a b i (free_same y o (inset_down r.inset) t (omega arith)) in
    record {
      output = record { tall = n + 1024 + 3072; line = l + 0; is = output_is s q i r p.is y m (omega arith); low = omega arith; sum = omega arith };
      by = 0;
      shift = m;
      near = omega arith;
      lined = omega arith;
    }

finish_by : (s : Style) (q : LayoutInput) (k D : ℕ) {w : ℕ} {f : Frame} {g : FrameZ} {c : Cursor} {z : CursorZ} {h x : Float} {a b : ℤ} → InProfile s → FrameIs w f g → (p : CursorAt k D c z) → Near x b (p.reach + 1024 + 3072) → k ≤ 1023 → D ≤ 31 → Tall (p.reach + 1024 + 3072) b h a
    → FinishedAt w k D p.line (record { output = output_of s q f c h (step_m s f h x); shift = step_m s f h x }) (record { output = output_of_z (style_z s) g z a (step_mz (style_z s) g a b); shift = step_mz (style_z s) g a b })
finish_by s q k D i r p t u v (short y) = finish_short s q k D i r p t u v y
finish_by s q k D i r p t u v (same y o) = finish_same s q k D i r p t u v y o

pub finished_is : (s : Style) (q : LayoutInput) (k D : ℕ) {w : ℕ} {f : Frame} {g : FrameZ} {c : Cursor} {z : CursorZ} → InProfile s → FrameIs w f g → (p : CursorAt k D c z) → k ≤ 1023 → D ≤ 31 → FinishedAt w k D p.line (finished s q f c) (finished_z (style_z s) g z)
unfolding finished finished_z
finished_is s q k D i r p u v =
    let e = p.low in
    let t = step_k_is r p.is (omega arith) in
    finish_by s q k D i r p t u v (step_l_is r t)

-- ---- a leaf
pub leaf_by : (s : Style) {w : ℕ} {q : LayoutInput} {z : InputZ} → InProfile s → InputIs w q z → 1024 ≤ w → OutIs w 5120 1024 (leaf_output s.measure q) (leaf_output_z (measure_z s.measure) z)
unfolding leaf_output leaf_output_z
leaf_by s p q u =
    record {
      width = unwrap_is q.known.width (wide (leaf_width_is s p q.available) u);
      height = unwrap_is q.known.height (wide (pixel_is s.measure.height p.height) (lit≤ tt));
      top = no_margins_is;
      bottom = no_margins_is;
      through = refl;
      baseline = option_is s.measure.baseline p.baseline;
    }

pub leaf_is : (s : Style) (k D : ℕ) {w : ℕ} {q : LayoutInput} {z : InputZ} → InProfile s → InputIs w q z → 1024 ≤ w → OutAt w (suc k) D (leaf_output s.measure q) (leaf_output_z (measure_z s.measure) z)
leaf_is s k D p q u = record { tall = 5120; line = 1024; is = leaf_by s p q u; low = omega arith; sum = omega arith }
