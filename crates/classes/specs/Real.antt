-- The boxes of a page as the steps lay it out; the stack of Plain on them is the stack of the steps.
use Rattle.std.specs.Prelude.{◌≡◌, refl, Bool, true, false, cond, ◌&&◌, Float, Option}
use Rattle.std.proofs.Common.{sym, ap, subst, ◌∙◌}
use Rattle.std.specs.Float.Ieee.{lt}
use Rattle.geometry.specs.Floats.{◌⊕◌}
use Rattle.geometry.specs.Geometry.{zero_f}
use Rattle.util.specs.Math.{larger, smaller}
use Rattle.length.specs.Length.{resolved_or_zero, resolved_rect}
use Rattle.style.specs.declared.Style.{Style}
use Rattle.tree.specs.Tree.{Tree, Forest, node, none, more, root_t}
use Rattle.margin.specs.Margin.{no_margins, set_of, joined, joined_with, sum_of}
use Rattle.margin.specs.Laws.{none_joined, set_made}
use Rattle.margin.specs.declared.CollapsibleMarginSet.{CollapsibleMarginSet}
use Rattle.style.specs.Flow.{is_leaf, flow_of}
use Rattle.steps.specs.Stack.{start_of, question_to, child_input, item_of, stepped, past_through, past_box, past_aside, past_hidden, top_margins, bottom_margins, place_y, place_of, gap_of, at_top}
use Rattle.steps.specs.Baseline.{baseline_past}
use Rattle.steps.specs.Height.{still_own_end, step_l, step_k}
use Rattle.steps.specs.Through.{finished, leaf_output, output_of, passed_out}
use Rattle.steps.specs.Row.{is_laid}
use Rattle.steps.specs.Page.{Site, Node}
use Rattle.steps.specs.Layout.{lay_t, lay_f, ask_t, skip, aside, place}
use Rattle.style.specs.declared.Flow.{Flow}
use Rattle.style.specs.declared.Flow.TheVariants.{Gone, Out, In}
use Rattle.steps.specs.declared.LayoutInput.{LayoutInput}
use Rattle.steps.specs.declared.LayoutOutput.{LayoutOutput}
use Rattle.steps.specs.declared.BlockItem.{BlockItem}
use Rattle.steps.specs.declared.Frame.{Frame}
use Rattle.steps.specs.declared.Cursor.{Cursor}
use Rattle.steps.proofs.Clauses.{by_test, by_flow, frame_at, style_t, lay_f_gone, lay_f_out, lay_f_in, ask_t_new, block_out, stack_of}
use Rattle.steps.proofs.Zeros.{unlaid_kept}
use Rattle.classes.specs.Margins.{Box}
use Rattle.classes.specs.Spots.{box_on}
use Rattle.classes.specs.Stacking.{thru_t, Cur, begin, past, top_set, bot_set, stack, NotedT, NotedF}

-- ---- the boxes

abbrev pub own_above : Style → LayoutInput → Float
own_above s q = resolved_or_zero s.margin.top q.parent

abbrev pub own_under : Style → LayoutInput → Float
own_under s q = resolved_or_zero s.margin.bottom q.parent

abbrev pub box_by : Site → LayoutInput → Float → Bool → Bool → Bool → Float → Bool → Box
box_by s q height start end through gap passed =
    record {
      node = s.node;
      height = height;
      above = own_above s.style q;
      under = own_under s.style q;
      start = start;
      end = end;
      through = through;
      gap = gap;
      passed = passed;
    }

abbrev pub answer : Tree Node → Frame → LayoutOutput
answer t f = (lay_t t (question_to f (style_t t)) zero_f).out

-- a leaf, a block, with the gap that its parent gave it
abbrev pub leaf_box : Node → LayoutInput → Float → Bool → Box
leaf_box l q gap passed = box_by l.site q (leaf_output l.site.style.measure q).size.height false false false gap passed

abbrev pub block_box : Node → Forest Node → LayoutInput → Float → Float → Bool → Box
block_box l ks q found gap passed =
    let o = (lay_t (node l ks) q found).out in
    box_by l.site q o.size.height (frame_at l q found).ownStart (still_own_end (frame_at l q found) o.size.height) o.through gap passed

unfoldable mutual
  pub box_t : Tree Node → LayoutInput → Float → Float → Bool → Tree Box
  box_t (node l ks) q found gap passed =
      elim (is_leaf l.site.style.kind) [
        | true ↦ node (leaf_box l q gap passed) none
        | false ↦ node (block_box l ks q found gap passed) (box_f ks (frame_at l q found) (start_of (frame_at l q found)))
      ]

  pub box_f : Forest Node → Frame → Cursor → Forest Box
  box_f none f c = none
  box_f (more t ts) f c =
      elim (flow_of (style_t t)) [
        | Gone ↦ box_f ts f (past_hidden c)
        | Out ↦ box_f ts f (past_aside c)
        | In ↦
            more (box_t t (question_to f (style_t t)) zero_f (gap_of f c (top_margins (item_of f (style_t t)) (answer t f))) (at_top f c))
            (box_f ts f (stepped f c (item_of f (style_t t)) (answer t f)))
      ]

-- the gap that a box notes is the one in its place y: (y+gap)+offset
pub gap_in_place : (t : Tree Node) (f : Frame) (c : Cursor)
    → (place_of f c (item_of f (style_t t)) (answer t f)).y ≡ (c.y ⊕ gap_of f c (top_margins (item_of f (style_t t)) (answer t f))) ⊕ (item_of f (style_t t)).offset.y
unfolding place_of place_y
gap_in_place t f c = refl

-- ---- clauses

box_t_by : (l : Node) (ks : Forest Node) (q : LayoutInput) (found gap : Float) (p : Bool)
    → box_t (node l ks) q found gap p ≡ by_test (is_leaf l.site.style.kind) (node (leaf_box l q gap p) none) (node (block_box l ks q found gap p) (box_f ks (frame_at l q found) (start_of (frame_at l q found))))
unfolding box_t
box_t_by l ks q found gap p = refl

pub box_t_at : (l : Node) (ks : Forest Node) (q : LayoutInput) (found gap : Float) (p b : Bool) → is_leaf l.site.style.kind ≡ b
    → box_t (node l ks) q found gap p ≡ by_test b (node (leaf_box l q gap p) none) (node (block_box l ks q found gap p) (box_f ks (frame_at l q found) (start_of (frame_at l q found))))
box_t_at l ks q found gap p b e =
    box_t_by l ks q found gap p
    ∙ ap (λ (w : Bool). by_test w (node (leaf_box l q gap p) none) (node (block_box l ks q found gap p) (box_f ks (frame_at l q found) (start_of (frame_at l q found))))) e

abbrev pub next_c : Tree Node → Frame → Cursor → Cursor
next_c t f c = stepped f c (item_of f (style_t t)) (answer t f)

abbrev pub this_box : Tree Node → Frame → Cursor → Tree Box
this_box t f c = box_t t (question_to f (style_t t)) zero_f (gap_of f c (top_margins (item_of f (style_t t)) (answer t f))) (at_top f c)

box_f_by : (t : Tree Node) (ts : Forest Node) (f : Frame) (c : Cursor)
    → box_f (more t ts) f c ≡ by_flow (flow_of (style_t t)) (box_f ts f (past_hidden c)) (box_f ts f (past_aside c)) (more (this_box t f c) (box_f ts f (next_c t f c)))
unfolding box_f
box_f_by t ts f c = refl

pub box_f_at : (t : Tree Node) (ts : Forest Node) (f : Frame) (c : Cursor) (w : Flow) → flow_of (style_t t) ≡ w
    → box_f (more t ts) f c ≡ by_flow w (box_f ts f (past_hidden c)) (box_f ts f (past_aside c)) (more (this_box t f c) (box_f ts f (next_c t f c)))
box_f_at t ts f c w e =
    box_f_by t ts f c ∙ ap (λ (v : Flow). by_flow v (box_f ts f (past_hidden c)) (box_f ts f (past_aside c)) (more (this_box t f c) (box_f ts f (next_c t f c)))) e

pub box_f_none : (f : Frame) (c : Cursor) → box_f none f c ≡ none
unfolding box_f
box_f_none f c = refl

-- ---- a fresh layout: no row is laid

abbrev mutual
  pub UnlaidT : Tree Node → Type 0
  UnlaidT (node l ks) = (is_laid l.old ≡ false) × UnlaidF ks

  pub UnlaidF : Forest Node → Type 0
  UnlaidF none = Unit {0}
  UnlaidF (more t ts) = UnlaidT t × UnlaidF ts

pub root_unlaid : (t : Tree Node) → UnlaidT t → is_laid (root_t t).old ≡ false
unfolding root_t
root_unlaid (node l ks) h = h.0

pub ask_new : (t : Tree Node) (q : LayoutInput) → UnlaidT t → ask_t t q ≡ lay_t t q zero_f
ask_new t q h = ask_t_new t q (unlaid_kept t q (root_unlaid t h))

pub end_gone : (t : Tree Node) (ts : Forest Node) (f : Frame) (c : Cursor) → flow_of (style_t t) ≡ Gone → (lay_f (more t ts) f c).last ≡ (lay_f ts f (past_hidden c)).last
unfolding skip
end_gone t ts f c e = rw (lay_f_gone t ts f c e)

pub end_out : (t : Tree Node) (ts : Forest Node) (f : Frame) (c : Cursor) → flow_of (style_t t) ≡ Out → (lay_f (more t ts) f c).last ≡ (lay_f ts f (past_aside c)).last
unfolding aside
end_out t ts f c e = rw (lay_f_out t ts f c e)

pub end_in : (t : Tree Node) (ts : Forest Node) (f : Frame) (c : Cursor) → UnlaidT t → flow_of (style_t t) ≡ In → (lay_f (more t ts) f c).last ≡ (lay_f ts f (next_c t f c)).last
unfolding place
end_in t ts f c u e = rw (lay_f_in t ts f c e, ask_new t (question_to f (style_t t)) u)

-- ---- cursors

abbrev pub cut : Cursor → Cur
cut c = record { strut = c.strut; top = c.top; first = c.first }

pub cut_start : (f : Frame) → cut (start_of f) ≡ begin
unfolding start_of
cut_start f = refl

cut_hidden : (c : Cursor) → cut (past_hidden c) ≡ cut c
unfolding past_hidden
cut_hidden c = refl

cut_aside : (c : Cursor) → cut (past_aside c) ≡ cut c
unfolding past_aside
cut_aside c = refl

abbrev line_after : Frame → Cursor → BlockItem → LayoutOutput → Option Float
line_after f c i o = baseline_past c.baseline (place_y f c i o) o.baseline

cut_stepped : (f : Frame) (c : Cursor) (i : BlockItem) (o : LayoutOutput) → cut (stepped f c i o) ≡ past (cut c) o.through (top_margins i o) (bottom_margins i o)
unfolding stepped past_through past_box
cut_stepped f c i o = go o.through
  where
    go : (b : Bool) → cut (cond b (past_through c (top_margins i o) (bottom_margins i o) (line_after f c i o)) (past_box f c (top_margins i o) (bottom_margins i o) o.size.height (line_after f c i o))) ≡ past (cut c) b (top_margins i o) (bottom_margins i o)
    go true = refl
    go false = refl

-- ---- T, B and through

pub record Same (o : LayoutOutput) (s : Style) (q : LayoutInput) (u : Tree Box) : Type 0 where
  pub top : joined_with o.top (own_above s q) ≡ top_set u
  pub bottom : joined_with o.bottom (own_under s q) ≡ bot_set u
  pub through : o.through ≡ thru_t u

alike : (t : Bool) (x : Float) → cond t x x ≡ x
alike true x = refl
alike false x = refl

twice : (m : Float) → joined_with no_margins m ≡ joined_with (set_of m) m
unfolding joined_with joined larger smaller
twice m = none_joined (set_of m) (set_made m) ∙ sym (rw (alike (lt (set_of m).positive (set_of m).positive) (set_of m).positive, alike (lt (set_of m).negative (set_of m).negative) (set_of m).negative))

pub same_leaf : (l : Node) (q : LayoutInput) (gap : Float) (p : Bool) → Same (leaf_output l.site.style.measure q) l.site.style q (node (leaf_box l q gap p) none)
unfolding leaf_output top_set
same_leaf l q gap p = record { top = twice _; bottom = twice _; through = refl }

pub same_block : (l : Node) (ks : Forest Node) (q : LayoutInput) (found gap : Float) (p : Bool) (us : Forest Box) → is_leaf l.site.style.kind ≡ false → cut (stack_of l ks q found).last ≡ stack us begin
    → Same (lay_t (node l ks) q found).out l.site.style q (node (block_box l ks q found gap p) us)
unfolding top_set finished output_of passed_out
same_block l ks q found gap p us e h =
    let s = l.site.style in
    let f = frame_at l q found in
    let o = block_out l ks q found e in
    record {
      top = ap (λ (z : LayoutOutput). joined_with z.top (own_above s q)) o ∙ ap (λ (z : Cur). joined_with (cond f.ownStart z.top (set_of (own_above s q))) (own_above s q)) h;
      bottom =
          ap (λ (z : LayoutOutput). joined_with z.bottom (own_under s q)) o
          ∙ ap (λ (z : Cur). joined_with (cond (still_own_end f (step_l f (step_k f (stack_of l ks q found).last))) z.strut (set_of (own_under s q))) (own_under s q)) h
          ∙ sym (ap (λ (z : LayoutOutput). joined_with (cond (still_own_end f z.size.height) (stack us begin).strut (set_of (own_under s q))) (own_under s q)) o);
      through = refl;
    }

-- what step J takes of a child
child_top : (t : Tree Node) (f : Frame) (o : LayoutOutput) → top_margins (item_of f (style_t t)) o ≡ joined_with o.top (own_above (style_t t) (question_to f (style_t t)))
unfolding top_margins item_of resolved_rect question_to child_input
child_top t f o = refl

child_bottom : (t : Tree Node) (f : Frame) (o : LayoutOutput) → bottom_margins (item_of f (style_t t)) o ≡ joined_with o.bottom (own_under (style_t t) (question_to f (style_t t)))
unfolding bottom_margins item_of resolved_rect question_to child_input
child_bottom t f o = refl

abbrev pub SameT : Tree Node → Type 0
SameT t = (q : LayoutInput) (found gap : Float) (p : Bool) → Same (lay_t t q found).out (style_t t) q (box_t t q found gap p)

past_alike : (c : Cur) (b b' : Bool) (t t' u u' : CollapsibleMarginSet) → b ≡ b' → t ≡ t' → u ≡ u' → past c b t u ≡ past c b' t' u'
past_alike c b b' t t' u u' e d g = ap (λ (z : Bool). past c z t u) e ∙ ap (λ (z : CollapsibleMarginSet). past c b' z u) d ∙ ap (λ (z : CollapsibleMarginSet). past c b' t' z) g

pub next_cut : (t : Tree Node) (f : Frame) (c : Cursor) → SameT t → cut (next_c t f c) ≡ past (cut c) (thru_t (this_box t f c)) (top_set (this_box t f c)) (bot_set (this_box t f c))
next_cut t f c s =
    let h = s (question_to f (style_t t)) zero_f (gap_of f c (top_margins (item_of f (style_t t)) (answer t f))) (at_top f c) in
    cut_stepped f c (item_of f (style_t t)) (answer t f)
    ∙ past_alike (cut c) _ _ _ _ _ _ h.through (child_top t f (answer t f) ∙ h.top) (child_bottom t f (answer t f) ∙ h.bottom)

-- ---- the stack

abbrev pub StackF : Forest Node → Type 0
StackF ts = (f : Frame) (c : Cursor) → cut (lay_f ts f c).last ≡ stack (box_f ts f c) (cut c)

pub stack_more : (u : Tree Box) (us : Forest Box) (c : Cur) → stack (more u us) c ≡ stack us (past c (thru_t u) (top_set u) (bot_set u))
unfolding stack
stack_more u us c = refl

pub stack_none : (c : Cur) → stack none c ≡ c
unfolding stack
stack_none c = refl

pub stack_step : (t : Tree Node) (ts : Forest Node) → UnlaidT t → SameT t → StackF ts → StackF (more t ts)
stack_step t ts u s r f c = go (flow_of (style_t t)) refl
  where
    go : (w : Flow) → flow_of (style_t t) ≡ w → cut (lay_f (more t ts) f c).last ≡ stack (box_f (more t ts) f c) (cut c)
    go Gone e = ap cut (end_gone t ts f c e) ∙ r f (past_hidden c) ∙ ap (stack (box_f ts f (past_hidden c))) (cut_hidden c) ∙ sym (ap (λ (z : Forest Box). stack z (cut c)) (box_f_at t ts f c Gone e))
    go Out e = ap cut (end_out t ts f c e) ∙ r f (past_aside c) ∙ ap (stack (box_f ts f (past_aside c))) (cut_aside c) ∙ sym (ap (λ (z : Forest Box). stack z (cut c)) (box_f_at t ts f c Out e))
    go In e =
        ap cut (end_in t ts f c u e) ∙ r f (next_c t f c) ∙ ap (stack (box_f ts f (next_c t f c))) (next_cut t f c s)
        ∙ sym (stack_more (this_box t f c) (box_f ts f (next_c t f c)) (cut c)) ∙ sym (ap (λ (z : Forest Box). stack z (cut c)) (box_f_at t ts f c In e))

-- ---- each box notes its gap

gap_cut : (f : Frame) (c : Cursor) (t : CollapsibleMarginSet) → gap_of f c t ≡ cond (c.first && f.ownStart) zero_f (sum_of (joined c.strut t))
unfolding gap_of at_top
gap_cut f c t = refl

top_cut : (f : Frame) (c : Cursor) → at_top f c ≡ (c.first && f.ownStart)
unfolding at_top
top_cut f c = refl

on_box : (t : Tree Node) (q : LayoutInput) (found gap : Float) (p : Bool) → ((box_on (box_t t q found gap p)).gap ≡ gap) × ((box_on (box_t t q found gap p)).passed ≡ p)
on_box (node l ks) q found gap p = go (is_leaf l.site.style.kind) refl
  where
    go : (b : Bool) → is_leaf l.site.style.kind ≡ b → ((box_on (box_t (node l ks) q found gap p)).gap ≡ gap) × ((box_on (box_t (node l ks) q found gap p)).passed ≡ p)
    go true e = (ap (λ (u : Tree Box). (box_on u).gap) (box_t_at l ks q found gap p true e), ap (λ (u : Tree Box). (box_on u).passed) (box_t_at l ks q found gap p true e))
    go false e = (ap (λ (u : Tree Box). (box_on u).gap) (box_t_at l ks q found gap p false e), ap (λ (u : Tree Box). (box_on u).passed) (box_t_at l ks q found gap p false e))

abbrev pub NoteT : Tree Node → Type 0
NoteT t = (q : LayoutInput) (found gap : Float) (p : Bool) → NotedT (box_t t q found gap p)

abbrev pub NoteF : Forest Node → Type 0
NoteF ts = (f : Frame) (c : Cursor) → NotedF (box_f ts f c) f.ownStart (cut c)

pub note_node : (l : Node) (ks : Forest Node) → NoteF ks → NoteT (node l ks)
note_node l ks h q found gap p = go (is_leaf l.site.style.kind) refl
  where
    go : (b : Bool) → is_leaf l.site.style.kind ≡ b → NotedT (box_t (node l ks) q found gap p)
    go true e = subst NotedT (sym (box_t_at l ks q found gap p true e)) tt
    go false e =
        subst NotedT (sym (box_t_at l ks q found gap p false e))
        (subst (λ (z : Cur). NotedF (box_f ks (frame_at l q found) (start_of (frame_at l q found))) (frame_at l q found).ownStart z) (cut_start (frame_at l q found)) (h (frame_at l q found) (start_of (frame_at l q found))))

pub note_more : (t : Tree Node) (ts : Forest Node) → SameT t → NoteT t → NoteF ts → NoteF (more t ts)
note_more t ts s n r f c = go (flow_of (style_t t)) refl
  where
    on-cut : (us vs : Forest Box) (c d : Cur) → us ≡ vs → d ≡ c → NotedF vs f.ownStart d → NotedF us f.ownStart c
    on-cut us vs c d e g h = subst (λ (z : Forest Box). NotedF z f.ownStart c) (sym e) (subst (λ (z : Cur). NotedF vs f.ownStart z) g h)

    go : (w : Flow) → flow_of (style_t t) ≡ w → NotedF (box_f (more t ts) f c) f.ownStart (cut c)
    go Gone e = on-cut _ _ _ _ (box_f_at t ts f c Gone e) (cut_hidden c) (r f (past_hidden c))
    go Out e = on-cut _ _ _ _ (box_f_at t ts f c Out e) (cut_aside c) (r f (past_aside c))
    go In e =
        let q = question_to f (style_t t) in
        let g = gap_of f c (top_margins (item_of f (style_t t)) (answer t f)) in
        let h = s q zero_f g (at_top f c) in
        let o = on_box t q zero_f g (at_top f c) in
        subst (λ (z : Forest Box). NotedF z f.ownStart (cut c)) (sym (box_f_at t ts f c In e)) (
          o.0 ∙ gap_cut f c _ ∙ ap (λ (z : CollapsibleMarginSet). cond (c.first && f.ownStart) zero_f (sum_of (joined c.strut z))) (child_top t f (answer t f) ∙ h.top),
          o.1 ∙ top_cut f c,
          n q zero_f g (at_top f c),
          subst (λ (z : Cur). NotedF (box_f ts f (next_c t f c)) f.ownStart z) (next_cut t f c s) (r f (next_c t f c)),
        )
