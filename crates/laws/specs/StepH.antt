-- Step H is gone (request 9): it resolved padding and border again, against the parent width, else the own width. Wherever it was reached the parent width was there,
-- so it gave A's. The final pass as it was, with H, and that it leaves the same rows, for any old rows.
use Rattle.geometry.specs.declared.Size.{Size}
use Rattle.std.specs.Prelude.{◌≡◌, refl, Bool, true, false, Float, Option, None, Some, is_some, unwrap_or}
use Rattle.std.proofs.Common.{sym, ap, ◌∙◌}
use Rattle.geometry.specs.Geometry.{zero_f, down, plus}
use Rattle.geometry.specs.declared.Rect.{Rect}
use Rattle.length.specs.Length.{resolved_rect}
use Rattle.style.specs.Flow.{is_leaf, flow_of}
use Rattle.style.specs.declared.Flow.{Flow}
use Rattle.style.specs.declared.Flow.TheVariants.{Gone, Out, In}
use Rattle.style.specs.declared.Style.{Style}
use Rattle.tree.specs.Tree.{Tree, Forest, node, none, more, root_t}
use Rattle.steps.specs.Sizing.{sizing_of, sized_by, known_of, insets}
use Rattle.steps.specs.HeightBasis.{basis_below}
use Rattle.steps.specs.Through.{hollow_box}
use Rattle.steps.specs.Edges.{adjoins, own_end_of, step_i}
use Rattle.steps.specs.Stack.{start_of, child_input, question_to}
use Rattle.steps.specs.Page.{Cell, Node}
use Rattle.steps.specs.Question.{root_input}
use Rattle.steps.specs.Probe.{width_pass}
use Rattle.steps.specs.Kept.{Laid, kept, keep}
use Rattle.steps.specs.Layout.{Stacked, leaf_laid, block_laid, skip, aside, place, lay_t, lay_f, ask_t}
use Rattle.steps.specs.declared.LayoutInput.{LayoutInput}
use Rattle.steps.specs.declared.Question.{Question}
use Rattle.steps.specs.declared.Sizing.{Sizing}
use Rattle.steps.specs.declared.Frame.{Frame}
use Rattle.steps.specs.declared.Cursor.{Cursor}
use Rattle.steps.proofs.Clauses.{style_t, by_test, by_flow, lay_f_gone, lay_f_out, lay_f_in}

-- ---- as it was. H: the basis is the parent width, else the own width
abbrev pub basis_again : Option Float → Float → Option Float
basis_again parent width = Some (unwrap_or parent width)

-- I, with H's padding and border
unfoldable pub step_i_again : Style → LayoutInput → Sizing → Size (Option Float) → Float → Rect Float → Rect Float → Frame
step_i_again s q z known width padding border =
    record {
      width = width;
      height = known.height;
      inset = insets s (plus padding border);
      floor = down (plus padding border);
      minHeight = z.min.height;
      maxHeight = z.max.height;
      heightBasis = basis_below q known (insets s z.both);
      ownStart = adjoins s q.collapseStart padding.top border.top;
      ownEnd = own_end_of s q.collapseEnd padding.bottom border.bottom z.size.height;
      hollow = hollow_box s q.nested padding border;
      rtl = s.rtl;
    }

unfoldable pub frame_again : Style → LayoutInput → Float → Frame
frame_again s q found =
    let z = sizing_of s q.parent q.basis in
    let known = known_of s z q.known in
    let width = unwrap_or known.width found in
    let basis = basis_again q.parent width in
    step_i_again s q z known width (resolved_rect s.padding basis) (resolved_rect s.border basis)

-- the final pass over these frames
unfoldable mutual
  pub again_t : Tree Node → LayoutInput → Float → Laid
  again_t (node l ks) q found =
      elim (is_leaf l.site.style.kind) [
        | true ↦ leaf_laid l q ks
        | false ↦
            let f : Frame = frame_again l.site.style q found in
            block_laid l q f (again_f ks f (start_of f))
      ]

  pub again_f : Forest Node → Frame → Cursor → Stacked
  again_f none f c = record { last = c; rows = none }
  again_f (more t ts) f c =
      elim (flow_of (root_t t).site.style) [
        | Gone ↦ skip c t (again_f ts f)
        | Out ↦ aside f c t (again_f ts f)
        | In ↦
            place f c (root_t t).site.style
            (elim (kept t (question_to f (root_t t).site.style)) [ true ↦ keep t | false ↦ again_t t (question_to f (root_t t).site.style) zero_f ])
            (again_f ts f)
      ]

unfoldable pub relaid_again : Tree Cell → LayoutInput → Laid
relaid_again t q =
    let p = width_pass t q in
    again_t p.nodes q p.found

-- ---- the parent width is there: the root's is a number, and every child is asked with the inner width
pub root_parent : (q : Question) → is_some (root_input q).parent ≡ true
unfolding root_input
root_parent q = refl

pub child_parent : (f : Frame) (s : Style) → is_some (question_to f s).parent ≡ true
unfolding question_to child_input
child_parent f s = refl

pub same_basis : (p : Option Float) (w : Float) → is_some p ≡ true → basis_again p w ≡ p
same_basis None w e = cc
same_basis (Some x) w e = refl

pub both_is : (s : Style) (b h : Option Float) → (sizing_of s b h).both ≡ plus (sizing_of s b h).padding (sizing_of s b h).border
unfolding sizing_of sized_by
both_is s b h = refl

pub step_same : (s : Style) (q : LayoutInput) (z : Sizing) (k : Size (Option Float)) (w : Float) → z.both ≡ plus z.padding z.border → step_i_again s q z k w z.padding z.border ≡ step_i s q z k w
unfolding step_i_again step_i
step_same s q z k w e = rw (← e)

-- ---- the clauses, and the passes
abbrev pub box_again : Node → Forest Node → LayoutInput → Float → Laid
box_again l ks q found = block_laid l q (frame_again l.site.style q found) (again_f ks (frame_again l.site.style q found) (start_of (frame_again l.site.style q found)))

again_t_by : (l : Node) (ks : Forest Node) (q : LayoutInput) (found : Float) → again_t (node l ks) q found ≡ by_test (is_leaf l.site.style.kind) (leaf_laid l q ks) (box_again l ks q found)
unfolding again_t
again_t_by l ks q found = refl

pub again_t_at : (l : Node) (ks : Forest Node) (q : LayoutInput) (found : Float) (b : Bool) → is_leaf l.site.style.kind ≡ b → again_t (node l ks) q found ≡ by_test b (leaf_laid l q ks) (box_again l ks q found)
again_t_at l ks q found b e = again_t_by l ks q found ∙ ap (λ (v : Bool). by_test v (leaf_laid l q ks) (box_again l ks q found)) e

abbrev ask_again : Tree Node → LayoutInput → Laid
ask_again t q = by_test (kept t q) (keep t) (again_t t q zero_f)

abbrev place_again : Tree Node → Forest Node → Frame → Cursor → Stacked
place_again t ts f c = place f c (style_t t) (ask_again t (question_to f (style_t t))) (again_f ts f)

again_f_by : (t : Tree Node) (ts : Forest Node) (f : Frame) (c : Cursor) → again_f (more t ts) f c ≡ by_flow (flow_of (style_t t)) (skip c t (again_f ts f)) (aside f c t (again_f ts f)) (place_again t ts f c)
unfolding again_f
again_f_by t ts f c = refl

again_f_at : (t : Tree Node) (ts : Forest Node) (f : Frame) (c : Cursor) (w : Flow) → flow_of (style_t t) ≡ w → again_f (more t ts) f c ≡ by_flow w (skip c t (again_f ts f)) (aside f c t (again_f ts f)) (place_again t ts f c)
again_f_at t ts f c w e = again_f_by t ts f c ∙ ap (λ (v : Flow). by_flow v (skip c t (again_f ts f)) (aside f c t (again_f ts f)) (place_again t ts f c)) e

pub again_f_none : (f : Frame) (c : Cursor) → again_f none f c ≡ record { last = c; rows = none }
unfolding again_f
again_f_none f c = refl

ask_same : (t : Tree Node) (q : LayoutInput) → again_t t q zero_f ≡ lay_t t q zero_f → ask_again t q ≡ ask_t t q
unfolding ask_t
ask_same t q e = ap (by_test (kept t q) (keep t)) e

skip_same : (c : Cursor) (t : Tree Node) (g h : Cursor → Stacked) → ((d : Cursor) → g d ≡ h d) → skip c t g ≡ skip c t h
unfolding skip
skip_same c t g h e = rw (e _)

aside_same : (f : Frame) (c : Cursor) (t : Tree Node) (g h : Cursor → Stacked) → ((d : Cursor) → g d ≡ h d) → aside f c t g ≡ aside f c t h
unfolding aside
aside_same f c t g h e = rw (e _)

place_same : (f : Frame) (c : Cursor) (s : Style) (a b : Laid) (g h : Cursor → Stacked) → a ≡ b → ((d : Cursor) → g d ≡ h d) → place f c s a g ≡ place f c s b h
unfolding place
place_same f c s a b g h x e = rw (x, e _)

pub more_same : (t : Tree Node) (ts : Forest Node) (f : Frame) (c : Cursor) → ((q : LayoutInput) → is_some q.parent ≡ true → again_t t q zero_f ≡ lay_t t q zero_f) → ((d : Cursor) → again_f ts f d ≡ lay_f ts f d) → again_f (more t ts) f c ≡ lay_f (more t ts) f c
more_same t ts f c h k = go (flow_of (style_t t)) refl
  where
    go : (w : Flow) → flow_of (style_t t) ≡ w → again_f (more t ts) f c ≡ lay_f (more t ts) f c
    go Gone e = again_f_at t ts f c Gone e ∙ skip_same c t _ _ k ∙ sym (lay_f_gone t ts f c e)
    go Out e = again_f_at t ts f c Out e ∙ aside_same f c t _ _ k ∙ sym (lay_f_out t ts f c e)
    go In e = again_f_at t ts f c In e ∙ place_same f c (style_t t) _ _ _ _ (ask_same t (question_to f (style_t t)) (h (question_to f (style_t t)) (child_parent f (style_t t)))) k ∙ sym (lay_f_in t ts f c e)
