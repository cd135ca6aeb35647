-- Without ratio there is no bridge.
use Rattle.std.specs.Option.{option_or}
use Rattle.geometry.specs.declared.Size.{Size}
use Rattle.std.specs.Prelude.{◌≡◌, refl, Bool, true, false, cond, ◌&&◌, ◌||◌, not, Float, Option, None, Some, is_some, unwrap_or}
use Rattle.std.proofs.Common.{sym, ap, subst, ◌∙◌, true≢false}
use Rattle.std.specs.Float.{nan, inf, fin, binary32}
use Rattle.std.specs.Float.Ieee.{lt, le, eq, is_nan, of_bits, add}
use Rattle.geometry.specs.Geometry.{zero_f, down, plus}
use Rattle.geometry.specs.declared.Rect.{Rect}
use Rattle.util.specs.Math.{larger, clamped}
use Rattle.util.specs.Maybe.{clamp_opt, floor_opt, ratio_fills}
use Rattle.length.specs.Length.{resolved_rect}
use Rattle.style.specs.declared.Style.{Style}
use Rattle.style.specs.declared.Overflow.{Overflow}
use Rattle.style.specs.declared.Overflow.TheVariants.{Visible, Clip, Hidden, Scroll}
use Rattle.steps.specs.Sizing.{sizing_of, sized_by, known_of, step_b, step_d, filled, known_axis, decided, insets, gutter, bar_of}
use Rattle.steps.specs.Context.{clips, is_normal, new_context, plain_block}
use Rattle.steps.specs.Edges.{frame_of, step_i, adjoins, own_end_of}
use Rattle.steps.specs.Through.{open_box, hollow_box, step_n}
use Rattle.style.specs.Flow.{is_leaf, flow_of, is_in}
use Rattle.steps.specs.Stack.{inner_width, question_to, child_input, item_of, asked_height}
use Rattle.steps.specs.Height.{extra_of, step_k, step_l, held_open, still_own_end}
use Rattle.steps.specs.declared.Sizing.{Sizing}
use Rattle.steps.specs.declared.Frame.{Frame}
use Rattle.steps.specs.declared.Cursor.{Cursor}
use Rattle.classes.specs.Collect.{both, left, right}
use Rattle.classes.specs.Zero.{Zero, eq_zero, zero_eq, zero_above, zero_add}
use Rattle.classes.specs.Heights.{height_known, height_content}

-- ---- A: no height

abbrev inner : Frame → Option Float
inner f = Some (inner_width f)

-- A of a child, which J's question took too
abbrev sz : Frame → Style → Sizing
sz f s = sizing_of s (inner f) f.heightBasis

not_some : (o : Option Float) → is_some o ≡ false → o ≡ None
not_some None e = refl
not_some (Some x) e = absurd (true≢false e)

asked_none : (f : Frame) (s : Style) → (sz f s).size.height ≡ None → (question_to f s).known.height ≡ None
unfolding question_to child_input asked_height item_of clamp_opt floor_opt
asked_none f s e = rw (e)

known_by : (d lo hi : Option Float) (pb : Float)
    → option_or (floor_opt (option_or None (option_or d (clamp_opt None lo hi))) pb) (clamp_opt (floor_opt (option_or None (option_or d (clamp_opt None lo hi))) pb) lo hi) ≡ floor_opt d pb
unfolding floor_opt clamp_opt
known_by None lo hi pb = refl
known_by (Some x) lo hi pb = refl

known_height : (s : Style) (z : Sizing) (asked : Size (Option Float)) → s.ratio ≡ None → asked.height ≡ None → z.size.height ≡ None → (known_of s z asked).height ≡ floor_opt (decided z.min.height z.max.height) (down z.both)
unfolding known_of step_d filled step_b known_axis ratio_fills
known_height s z asked e a h = rw (e, a, h) (known_by (decided z.min.height z.max.height) z.min.height z.max.height (down z.both))

le_number : (b a : Float) → le b a ≡ true → is_nan a ≡ false
unfolding le lt eq is_nan
le_number nan nan e = sym e
le_number (inf s) nan e = sym e
le_number (fin s m d) nan e = sym e
le_number b (inf t) e = refl
le_number b (fin t n d) e = refl

decided_some : (lo hi : Option Float) (x : Float) → decided lo hi ≡ Some x → (lo ≡ Some x) × (is_nan x ≡ false)
unfolding decided
decided_some None hi x e = absurd (none-some x e)
  where
    none-some : (x : Float) → None ≡ Some x → ⊥
    none-some x e = true≢false (ap (λ (o : Option Float). elim o [ None ↦ true | Some z ↦ false ]) e)
decided_some (Some a) None x e = absurd (none-some x e)
  where
    none-some : (x : Float) → None ≡ Some x → ⊥
    none-some x e = true≢false (ap (λ (o : Option Float). elim o [ None ↦ true | Some z ↦ false ]) e)
decided_some (Some a) (Some b) x e = go (le b a) refl e
  where
    go : (t : Bool) → le b a ≡ t → cond t (Some a) None ≡ Some x → (Some a ≡ Some x) × (is_nan x ≡ false)
    go true q h = (h, subst (λ (w : Float). is_nan w ≡ false) (ap (λ (o : Option Float). elim o [ None ↦ zero_f | Some z ↦ z ]) h) (le_number b a q))
    go false q h = absurd (true≢false (ap (λ (o : Option Float). elim o [ None ↦ true | Some z ↦ false ]) h))

-- ---- the frame of a child

abbrev pd : Frame → Style → Rect Float
pd f s = resolved_rect s.padding (inner f)

abbrev bd : Frame → Style → Rect Float
bd f s = resolved_rect s.border (inner f)

abbrev pub fr : Frame → Style → Frame
fr f s = frame_of s (question_to f s) zero_f

fr_start : (f : Frame) (s : Style) → (fr f s).ownStart ≡ adjoins s (plain_block s) (pd f s).top (bd f s).top
unfolding frame_of step_i question_to child_input sizing_of sized_by
fr_start f s = refl

fr_end : (f : Frame) (s : Style) → (fr f s).ownEnd ≡ own_end_of s (plain_block s) (pd f s).bottom (bd f s).bottom (sz f s).size.height
unfolding frame_of step_i question_to child_input sizing_of sized_by
fr_end f s = refl

fr_hollow : (f : Frame) (s : Style) → (fr f s).hollow ≡ hollow_box s true (pd f s) (bd f s)
unfolding frame_of step_i question_to child_input sizing_of sized_by
fr_hollow f s = refl

fr_inset : (f : Frame) (s : Style) → (fr f s).inset ≡ insets s (plus (pd f s) (bd f s))
unfolding frame_of step_i question_to child_input sizing_of sized_by
fr_inset f s = refl

fr_floor : (f : Frame) (s : Style) → (fr f s).floor ≡ down (plus (pd f s) (bd f s))
unfolding frame_of step_i question_to child_input sizing_of sized_by
fr_floor f s = refl

fr_both : (f : Frame) (s : Style) → down (sz f s).both ≡ down (plus (pd f s) (bd f s))
unfolding sizing_of sized_by
fr_both f s = refl

fr_min : (f : Frame) (s : Style) → (fr f s).minHeight ≡ (sz f s).min.height
unfolding frame_of step_i question_to child_input sizing_of sized_by
fr_min f s = refl

fr_max : (f : Frame) (s : Style) → (fr f s).maxHeight ≡ (sz f s).max.height
unfolding frame_of step_i question_to child_input sizing_of sized_by
fr_max f s = refl

fr_height : (f : Frame) (s : Style) → (fr f s).height ≡ (known_of s (sz f s) (question_to f s).known).height
unfolding frame_of step_i question_to child_input sizing_of sized_by
fr_height f s = refl

-- ---- what own start and own end say

record Flat (f : Frame) (s : Style) : Type 0 where
  plain : plain_block s ≡ true
  p_top : Zero (pd f s).top
  b_top : Zero (bd f s).top
  p_bottom : Zero (pd f s).bottom
  b_bottom : Zero (bd f s).bottom

adjoins_both : (s : Style) (g : Bool) (p b : Float) → adjoins s g p b ≡ true → (plain_block s ≡ true) × Zero p × Zero b
unfolding adjoins
adjoins_both s g p b e =
    let h = right g _ e in
    let k = right (plain_block s) _ h in
    (left (plain_block s) (eq p zero_f && eq b zero_f) h, eq_zero p (left (eq p zero_f) (eq b zero_f) k), eq_zero b (right (eq p zero_f) (eq b zero_f) k))

flat_of : (f : Frame) (s : Style) → (fr f s).ownStart ≡ true → (fr f s).ownEnd ≡ true → Flat f s
unfolding own_end_of
flat_of f s a b =
    let h = adjoins_both s _ _ _ (sym (fr_start f s) ∙ a) in
    let k = adjoins_both s _ _ _ (left _ (not (is_some (sz f s).size.height)) (sym (fr_end f s) ∙ b)) in
    record { plain = h.0; p_top = h.1; b_top = h.2; p_bottom = k.1; b_bottom = k.2 }

not_true : (a : Bool) → not a ≡ true → a ≡ false
not_true true e = sym e
not_true false e = refl

end_none : (f : Frame) (s : Style) → (fr f s).ownEnd ≡ true → is_some (sz f s).size.height ≡ false
unfolding own_end_of
end_none f s b = not_true _ (right (adjoins s (plain_block s) (pd f s).bottom (bd f s).bottom) _ (sym (fr_end f s) ∙ b))

open_four : (f : Frame) (s : Style) → Flat f s → (fr f s).hollow ≡ true
unfolding hollow_box open_box
open_four f s h = fr_hollow f s ∙ rw (h.plain, zero_above _ h.p_top, zero_above _ h.p_bottom, zero_above _ h.b_top, zero_above _ h.b_bottom)

bar_none : (o : Overflow) (x : Float) → clips o ≡ false → bar_of o x ≡ zero_f
unfolding clips bar_of
bar_none Visible x e = refl
bar_none Clip x e = refl
bar_none Hidden x e = refl
bar_none Scroll x e = absurd (true≢false e)

or_left : (a b : Bool) → (a || b) ≡ false → a ≡ false
or_left true b e = e
or_left false b e = refl

no_bar : (s : Style) → plain_block s ≡ true → bar_of s.overflow.x s.scrollbar ≡ zero_f
unfolding plain_block new_context
no_bar s e = bar_none _ _ (or_left (clips s.overflow.x) (clips s.overflow.y || (not (is_normal s.align) || s.contained)) (not_true _ (right (not (is_leaf s.kind)) _ (right (is_in (flow_of s)) _ e))))

zero_zero : Zero zero_f
unfolding of_bits
zero_zero = refl

inset_top : (f : Frame) (s : Style) → Flat f s → Zero (fr f s).inset.top
unfolding insets plus gutter
inset_top f s h = subst (λ (r : Rect Float). Zero r.top) (sym (fr_inset f s)) (zero_add _ _ (zero_add _ _ h.p_top h.b_top) zero_zero)

inset_bottom : (f : Frame) (s : Style) → Flat f s → Zero (fr f s).inset.bottom
unfolding insets plus gutter
inset_bottom f s h = subst (λ (r : Rect Float). Zero r.bottom) (sym (fr_inset f s)) (zero_add _ _ (zero_add _ _ h.p_bottom h.b_bottom) (subst Zero (sym (no_bar s h.plain)) zero_zero))

floor_zero : (f : Frame) (s : Style) → Flat f s → Zero (down (plus (pd f s) (bd f s)))
unfolding plus
floor_zero f s h = zero_add _ _ (zero_add _ _ h.p_top h.b_top) (zero_add _ _ h.p_bottom h.b_bottom)

-- ---- the height

content_zero : (f : Frame) (s : Style) (c : Cursor) → Flat f s → (fr f s).ownEnd ≡ true → c.y ≡ (fr f s).inset.top → step_k (fr f s) c ≡ zero_f
unfolding step_k extra_of larger
content_zero f s c h e y =
    let w : Zero (add binary32 (add binary32 c.y zero_f) (fr f s).inset.bottom) =
    zero_add _ _ (zero_add _ _ (subst Zero (sym y) (inset_top f s h)) zero_zero) (inset_bottom f s h) in
    rw (e, zero_above _ w)

held_not : (f : Frame) (s : Style) (h : Float) → still_own_end (fr f s) h ≡ true → ((fr f s).ownEnd ≡ true) × (held_open (sz f s).min.height h ≡ false)
unfolding still_own_end
held_not f s h e =
    (left _ (not (held_open (fr f s).minHeight h)) e, ap (λ (o : Option Float). held_open o h) (sym (fr_min f s)) ∙ not_true _ (right (fr f s).ownEnd _ e))

-- step L, with what the frame has
level_is : (f : Frame) (s : Style) (content : Float) (k : Option Float) → (fr f s).height ≡ k
    → step_l (fr f s) content ≡ larger (unwrap_or k (clamped content (sz f s).min.height (sz f s).max.height)) (down (plus (pd f s) (bd f s)))
unfolding step_l
level_is f s content k e = ap (λ (o : Option Float). larger (unwrap_or o (clamped content (fr f s).minHeight (fr f s).maxHeight)) (fr f s).floor) e ∙ rw (fr_min f s, fr_max f s, fr_floor f s)

zero_height : (f : Frame) (s : Style) (c : Cursor) → s.ratio ≡ None → Flat f s → c.y ≡ (fr f s).inset.top → still_own_end (fr f s) (step_l (fr f s) (step_k (fr f s) c)) ≡ true → Zero (step_l (fr f s) (step_k (fr f s) c))
unfolding floor_opt
zero_height f s c r h y o = go (decided (sz f s).min.height (sz f s).max.height) refl
  where
    e : (fr f s).ownEnd ≡ true
    e = (held_not f s _ o).0

    shut : held_open (sz f s).min.height (step_l (fr f s) (step_k (fr f s) c)) ≡ false
    shut = (held_not f s _ o).1

    known : (d : Option Float) → decided (sz f s).min.height (sz f s).max.height ≡ d → (fr f s).height ≡ floor_opt d (down (sz f s).both)
    known d q =
        fr_height f s
        ∙ known_height s (sz f s) (question_to f s).known r (asked_none f s (not_some _ (end_none f s e))) (not_some _ (end_none f s e))
        ∙ ap (λ (w : Option Float). floor_opt w (down (sz f s).both)) q

    go : (d : Option Float) → decided (sz f s).min.height (sz f s).max.height ≡ d → Zero (step_l (fr f s) (step_k (fr f s) c))
    go None q =
        let l = level_is f s (step_k (fr f s) c) None (known None q) ∙ ap (λ (w : Float). larger (clamped w (sz f s).min.height (sz f s).max.height) (down (plus (pd f s) (bd f s)))) (content_zero f s c h e y) in
        subst Zero (sym l) (height_content (sz f s).min.height (sz f s).max.height _ (floor_zero f s h) (ap (held_open (sz f s).min.height) (sym l) ∙ shut))
    go (Some x) q =
        let d = decided_some _ _ x q in
        let l = level_is f s (step_k (fr f s) c) (Some (larger x (down (sz f s).both))) (known (Some x) q) in
        subst Zero (sym l)
        (height_known x (down (sz f s).both) _ (subst Zero (sym (fr_both f s)) (floor_zero f s h)) (floor_zero f s h) d.1
        (ap (λ (w : Option Float). held_open w (larger (larger x (down (sz f s).both)) (down (plus (pd f s) (bd f s))))) (sym d.0) ∙ ap (held_open (sz f s).min.height) (sym l) ∙ shut))

-- own start, own end as L leaves it, nothing stacked: through
pub no_bridge : (f : Frame) (s : Style) (c : Cursor) → s.ratio ≡ None → (fr f s).ownStart ≡ true → still_own_end (fr f s) (step_l (fr f s) (step_k (fr f s) c)) ≡ true
    → c.y ≡ (fr f s).inset.top → c.allThrough ≡ true → step_n (fr f s) c (step_l (fr f s) (step_k (fr f s) c)) ≡ true
unfolding step_n
no_bridge f s c r a o y t =
    let h = flat_of f s a (held_not f s _ o).0 in
    both _ _ (open_four f s h) (both _ _ (zero_eq _ (zero_height f s c r h y o)) t)
