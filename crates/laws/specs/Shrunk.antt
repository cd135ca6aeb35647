-- Fractions inside a shrunk page (request 4). Step E as it was: children's numbers resolved once, against the known width less insets, else without basis. Where the
-- root's width is known the final pass leaves the same as before, for any old rows: only a page that shrinks to fit differs.
use Rattle.std.specs.Option.{option_or}
use Rattle.geometry.specs.declared.Size.{Size}
use Rattle.std.specs.Prelude.{◌≡◌, refl, Bool, true, false, Float, Option, None, Some, is_some, unwrap_or}
use Rattle.std.proofs.Common.{ap, ◌∙◌}
use Rattle.geometry.specs.Geometry.{zero_f, across}
use Rattle.util.specs.Maybe.{floor_opt, sub_opt}
use Rattle.length.specs.Length.{resolved_rect, is_auto}
use Rattle.style.specs.Flow.{is_leaf, flow_of}
use Rattle.style.specs.declared.Flow.{Flow}
use Rattle.style.specs.declared.Flow.TheVariants.{Gone, Out, In}
use Rattle.style.specs.declared.Style.{Style}
use Rattle.tree.specs.Tree.{Tree, Forest, node, none, more, root_t, on_root}
use Rattle.steps.specs.Row.{put_at}
use Rattle.steps.specs.Sizing.{sizing_of, step_b, known_axis, step_d, filled, known_of, insets}
use Rattle.steps.specs.Edges.{step_i, frame_of}
use Rattle.steps.specs.Stack.{inner_width, start_of, offset_by, item_of, child_input, question_to, place_of, stepped}
use Rattle.steps.specs.Page.{Cell, Node}
use Rattle.steps.specs.Probe.{width_pass}
use Rattle.steps.specs.Kept.{Laid, kept, keep}
use Rattle.steps.specs.Layout.{Stacked, leaf_laid, block_laid, skip, aside, place, lay_t, ask_t}
use Rattle.steps.specs.declared.LayoutInput.{LayoutInput}
use Rattle.steps.specs.declared.Sizing.{Sizing}
use Rattle.steps.specs.declared.Frame.{Frame}
use Rattle.steps.specs.declared.Cursor.{Cursor}
use Rattle.steps.specs.declared.BlockItem.{BlockItem}
use Rattle.steps.proofs.Clauses.{style_t, by_test, by_flow}

-- ---- as it was: known width less insets, else no basis
unfoldable pub basis_once : Style → LayoutInput → Option Float
basis_once s q =
    let z = sizing_of s q.parent q.basis in
    sub_opt (known_of s z q.known).width (across (insets s z.both))

unfoldable pub item_once : Frame → Option Float → Style → BlockItem
item_once f basis s =
    record {
      sizing = sizing_of s basis f.heightBasis;
      margin = resolved_rect s.margin (Some (inner_width f));
      left = is_auto s.margin.left;
      right = is_auto s.margin.right;
      offset = offset_by s.position s.inset f.rtl (Some (inner_width f)) f.heightBasis;
    }

abbrev pub question_once : Frame → Option Float → Style → LayoutInput
question_once f basis s = child_input f s (item_once f basis s)

unfoldable pub place_once : Frame → BlockItem → Cursor → Laid → (Cursor → Stacked) → Stacked
place_once f i c a rest =
    let s = rest (stepped f c i a.out) in
    record { last = s.last; rows = more (on_root (put_at (place_of f c i a.out) c.shown.0) a.rows) s.rows }

unfoldable mutual
  pub once_t : Tree Node → LayoutInput → Float → Laid
  once_t (node l ks) q found =
      elim (is_leaf l.site.style.kind) [
        | true ↦ leaf_laid l q ks
        | false ↦
            let f : Frame = frame_of l.site.style q found in
            block_laid l q f (once_f ks f (basis_once l.site.style q) (start_of f))
      ]

  pub once_f : Forest Node → Frame → Option Float → Cursor → Stacked
  once_f none f b c = record { last = c; rows = none }
  once_f (more t ts) f b c =
      elim (flow_of (root_t t).site.style) [
        | Gone ↦ skip c t (once_f ts f b)
        | Out ↦ aside f c t (once_f ts f b)
        | In ↦
            place_once f (item_once f b (root_t t).site.style) c
            (elim (kept t (question_once f b (root_t t).site.style)) [ true ↦ keep t | false ↦ once_t t (question_once f b (root_t t).site.style) zero_f ])
            (once_f ts f b)
      ]

unfoldable pub relaid_once : Tree Cell → LayoutInput → Laid
relaid_once t q =
    let p = width_pass t q in
    once_t p.nodes q p.found

-- ---- a known width less insets is the inner width
abbrev pub KnownWidth : Style → LayoutInput → Type 0
KnownWidth s q = is_some (known_of s (sizing_of s q.parent q.basis) q.known).width ≡ true

less_is : (o : Option Float) (found x : Float) → is_some o ≡ true → sub_opt o x ≡ sub_opt (Some (unwrap_or o found)) x
less_is None found x e = cc
less_is (Some w) found x e = refl

inner_is : (f : Frame) → sub_opt (Some f.width) (across f.inset) ≡ Some (inner_width f)
unfolding sub_opt inner_width
inner_is f = refl

pub once_is : (s : Style) (q : LayoutInput) (found : Float) → KnownWidth s q → basis_once s q ≡ Some (inner_width (frame_of s q found))
unfolding basis_once frame_of step_i
once_is s q found e =
    let z = sizing_of s q.parent q.basis in
    less_is (known_of s z q.known).width found (across (insets s z.both)) e ∙ inner_is (frame_of s q found)

pub item_is : (f : Frame) (s : Style) → item_once f (Some (inner_width f)) s ≡ item_of f s
unfolding item_once item_of
item_is f s = refl

pub question_is : (f : Frame) (s : Style) → question_to f s ≡ child_input f s (item_of f s)
unfolding question_to
question_is f s = refl

pub place_is : (f : Frame) (c : Cursor) (s : Style) (a : Laid) (rest : Cursor → Stacked) → place_once f (item_of f s) c a rest ≡ place f c s a rest
unfolding place_once place
place_is f c s a rest = refl

-- below the root a width is asked, so it is known
asked_known : (s : Style) (z : Sizing) (k : Size (Option Float)) (w : Float) → k.width ≡ Some w → is_some (known_of s z k).width ≡ true
unfolding known_of step_d filled step_b known_axis floor_opt
asked_known s z k w e = rw e

pub child_known : (f : Frame) (s : Style) → KnownWidth s (question_to f s)
unfolding question_to child_input
child_known f s = asked_known s _ _ _ refl

-- ---- the clauses, and the passes
abbrev pub box_once : Node → Forest Node → LayoutInput → Float → Laid
box_once l ks q found =
    block_laid l q (frame_of l.site.style q found) (once_f ks (frame_of l.site.style q found) (basis_once l.site.style q) (start_of (frame_of l.site.style q found)))

once_t_by : (l : Node) (ks : Forest Node) (q : LayoutInput) (found : Float) → once_t (node l ks) q found ≡ by_test (is_leaf l.site.style.kind) (leaf_laid l q ks) (box_once l ks q found)
unfolding once_t
once_t_by l ks q found = refl

pub once_t_at : (l : Node) (ks : Forest Node) (q : LayoutInput) (found : Float) (b : Bool) → is_leaf l.site.style.kind ≡ b → once_t (node l ks) q found ≡ by_test b (leaf_laid l q ks) (box_once l ks q found)
once_t_at l ks q found b e = once_t_by l ks q found ∙ ap (λ (v : Bool). by_test v (leaf_laid l q ks) (box_once l ks q found)) e

abbrev pub ask_once : Tree Node → LayoutInput → Laid
ask_once t q = by_test (kept t q) (keep t) (once_t t q zero_f)

abbrev pub step_once : Tree Node → Forest Node → Frame → Option Float → Cursor → Stacked
step_once t ts f b c = place_once f (item_once f b (style_t t)) c (ask_once t (question_once f b (style_t t))) (once_f ts f b)

once_f_by : (t : Tree Node) (ts : Forest Node) (f : Frame) (b : Option Float) (c : Cursor) → once_f (more t ts) f b c ≡ by_flow (flow_of (style_t t)) (skip c t (once_f ts f b)) (aside f c t (once_f ts f b)) (step_once t ts f b c)
unfolding once_f
once_f_by t ts f b c = refl

pub once_f_at : (t : Tree Node) (ts : Forest Node) (f : Frame) (b : Option Float) (c : Cursor) (w : Flow) → flow_of (style_t t) ≡ w
    → once_f (more t ts) f b c ≡ by_flow w (skip c t (once_f ts f b)) (aside f c t (once_f ts f b)) (step_once t ts f b c)
once_f_at t ts f b c w e = once_f_by t ts f b c ∙ ap (λ (v : Flow). by_flow v (skip c t (once_f ts f b)) (aside f c t (once_f ts f b)) (step_once t ts f b c)) e

pub once_f_none : (f : Frame) (b : Option Float) (c : Cursor) → once_f none f b c ≡ record { last = c; rows = none }
unfolding once_f
once_f_none f b c = refl

pub ask_same : (t : Tree Node) (q : LayoutInput) → once_t t q zero_f ≡ lay_t t q zero_f → ask_once t q ≡ ask_t t q
unfolding ask_t
ask_same t q e = ap (by_test (kept t q) (keep t)) e

pub skip_same : (c : Cursor) (t : Tree Node) (g h : Cursor → Stacked) → ((d : Cursor) → g d ≡ h d) → skip c t g ≡ skip c t h
unfolding skip
skip_same c t g h e = rw (e _)

pub aside_same : (f : Frame) (c : Cursor) (t : Tree Node) (g h : Cursor → Stacked) → ((d : Cursor) → g d ≡ h d) → aside f c t g ≡ aside f c t h
unfolding aside
aside_same f c t g h e = rw (e _)

pub place_same : (f : Frame) (c : Cursor) (s : Style) (a b : Laid) (g h : Cursor → Stacked) → a ≡ b → ((d : Cursor) → g d ≡ h d) → place f c s a g ≡ place f c s b h
unfolding place
place_same f c s a b g h x e = rw (x, e _)
