-- What a steady child is answered: a height not below 0, and 0 where it is through. Assumes nothing.
use Rattle.std.specs.Prelude.{◌≡◌, refl, Bool, true, false, ◌&&◌, ◌*◌, Float, Option, None, Some, unwrap_or}
use Rattle.std.proofs.Common.{sym, ap, subst, ◌∙◌, true≢false, mul-one, zero-mul, eqb-true}
use Rattle.std.specs.Float.{nan, inf, fin}
use Rattle.std.specs.Float.Ieee.{lt, eq, up, down, of_bits}
use Rattle.geometry.specs.Geometry.{zero_f}
use Rattle.limits.specs.Bools.{and_fst, and_snd}
use Rattle.util.specs.Maybe.{floor_opt}
use Rattle.style.specs.declared.Style.{Style}
use Rattle.style.specs.Flow.{is_leaf}
use Rattle.tree.specs.Tree.{Tree, node, root_t}
use Rattle.steps.specs.Sizing.{sizing_of, sized_by}
use Rattle.steps.specs.Edges.{frame_of, step_i}
use Rattle.steps.specs.Stack.{question_to, child_input, asked_height, item_of}
use Rattle.steps.specs.Height.{step_k, step_l}
use Rattle.steps.specs.Through.{step_n, finished, leaf_output, output_of}
use Rattle.steps.specs.Page.{Node}
use Rattle.steps.specs.Layout.{lay_t}
use Rattle.steps.specs.declared.LayoutInput.{LayoutInput}
use Rattle.steps.specs.declared.LayoutOutput.{LayoutOutput}
use Rattle.steps.specs.declared.Frame.{Frame}
use Rattle.steps.specs.declared.Cursor.{Cursor}
use Rattle.steps.proofs.Clauses.{frame_at, style_t, leaf_out, block_out, stack_of}
use Rattle.sums.specs.Zeros.{Zero}
use Rattle.sums.specs.Solid.{Solid, larger_up}
use Rattle.order.specs.Steady.{Steady}

-- what a child is answered, with nothing kept
abbrev pub answer : Tree Node → Frame → LayoutOutput
answer t f = (lay_t t (question_to f (style_t t)) zero_f).out

-- ---- a height

asked_up : (o : Option Float) (p h : Float) → Solid p → lt h zero_f ≡ false → lt (unwrap_or (floor_opt o p) h) zero_f ≡ false
unfolding floor_opt
asked_up None p h s e = e
asked_up (Some x) p h s e = larger_up x p s

leaf_height : (s : Style) (f : Frame) → Steady s → lt (leaf_output s.measure (question_to f s)).size.height zero_f ≡ false
unfolding leaf_output question_to child_input asked_height item_of sizing_of sized_by
leaf_height s f h = asked_up _ _ s.measure.height (h.floor _) h.text

block_height : (s : Style) (q : LayoutInput) (found : Float) (c : Cursor) → Steady s → lt (finished s q (frame_of s q found) c).output.size.height zero_f ≡ false
unfolding finished output_of step_l frame_of step_i sizing_of sized_by
block_height s q found c h = larger_up _ _ (h.floor _)

pub child_height : (t : Tree Node) (f : Frame) → Steady (style_t t) → lt (answer t f).size.height zero_f ≡ false
unfolding root_t
child_height (node l ks) f h = go (is_leaf l.site.style.kind) refl
  where
    go : (b : Bool) → is_leaf l.site.style.kind ≡ b → lt (lay_t (node l ks) (question_to f l.site.style) zero_f).out.size.height zero_f ≡ false
    go true e = rw (leaf_out l ks (question_to f l.site.style) zero_f e) (leaf_height l.site.style f h)
    go false e = rw (block_out l ks (question_to f l.site.style) zero_f e) (block_height l.site.style (question_to f l.site.style) zero_f (stack_of l ks (question_to f l.site.style) zero_f).last h)

-- ---- the height of a through box

eq_zero : (x : Float) → eq x zero_f ≡ true → Zero x
unfolding eq of_bits
eq_zero nan e = true≢false (sym e)
eq_zero (inf s) e = true≢false (sym e)
eq_zero (fin s m d) e = sym (mul-one (m * up d)) ∙ eqb-true (m * up d * 1) (0 * 1 * down d) (and_fst _ _ e) ∙ zero-mul (down d)

block_zero : (s : Style) (q : LayoutInput) (f : Frame) (c : Cursor) → (finished s q f c).output.through ≡ true → Zero (finished s q f c).output.size.height
unfolding finished output_of step_n
block_zero s q f c e =
    let h = step_l f (step_k f c) in
    eq_zero h (and_fst (eq h zero_f) c.allThrough (and_snd f.hollow (eq h zero_f && c.allThrough) e))

leaf_through : (s : Style) (q : LayoutInput) → (leaf_output s.measure q).through ≡ false
unfolding leaf_output
leaf_through s q = refl

pub through_zero : (t : Tree Node) (f : Frame) → (answer t f).through ≡ true → Zero (answer t f).size.height
unfolding root_t
through_zero (node l ks) f h = go (is_leaf l.site.style.kind) refl
  where
    go : (b : Bool) → is_leaf l.site.style.kind ≡ b → Zero (lay_t (node l ks) (question_to f l.site.style) zero_f).out.size.height
    go true e = absurd (true≢false (sym h ∙ ap (λ (o : LayoutOutput). o.through) (leaf_out l ks (question_to f l.site.style) zero_f e) ∙ leaf_through l.site.style (question_to f l.site.style)))
    go false e =
        let q = question_to f l.site.style in
        let b = block_out l ks q zero_f e in
        subst (λ (o : LayoutOutput). Zero o.size.height) (sym b) (block_zero l.site.style q (frame_at l q zero_f) (stack_of l ks q zero_f).last (sym (ap (λ (o : LayoutOutput). o.through) b) ∙ h))
