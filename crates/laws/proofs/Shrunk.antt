-- Fractions inside a shrunk page (request 4). Step E as it was: children's numbers resolved once, against the known width less insets, else without basis. Where the
-- root's width is known the final pass leaves the same as before, for any old rows: only a page that shrinks to fit differs.
use Rattle.std.specs.Prelude.{◌≡◌, refl, Bool, true, false, Float, Some}
use Rattle.std.proofs.Common.{sym, ◌∙◌}
use Rattle.geometry.specs.Geometry.{zero_f}
use Rattle.style.specs.Flow.{is_leaf, flow_of}
use Rattle.style.specs.declared.Flow.{Flow}
use Rattle.style.specs.declared.Flow.TheVariants.{Gone, Out, In}
use Rattle.tree.specs.Tree.{Tree, Forest, node, none, more, root_t}
use Rattle.steps.specs.Edges.{frame_of}
use Rattle.steps.specs.Stack.{inner_width, start_of, question_to}
use Rattle.steps.specs.Page.{Cell, Node}
use Rattle.steps.specs.Probe.{width_pass}
use Rattle.steps.specs.Layout.{lay_t, lay_f, relaid}
use Rattle.steps.specs.declared.LayoutInput.{LayoutInput}
use Rattle.steps.specs.declared.Frame.{Frame}
use Rattle.steps.specs.declared.Cursor.{Cursor}
use Rattle.steps.proofs.Clauses.{style_t, lay_t_leaf, lay_t_block, lay_f_none, lay_f_gone, lay_f_out, lay_f_in}
use Rattle.laws.specs.Shrunk.{once_t, once_f, relaid_once, KnownWidth, once_is, item_is, question_is, place_is, child_known, once_t_at, once_f_at, once_f_none, ask_same, skip_same, aside_same, place_same}

node_same : (l : Node) (ks : Forest Node) (q : LayoutInput) (found : Float) → KnownWidth l.site.style q → ((f : Frame) (c : Cursor) → once_f ks f (Some (inner_width f)) c ≡ lay_f ks f c) → once_t (node l ks) q found ≡ lay_t (node l ks) q found
node_same l ks q found p h = go (is_leaf l.site.style.kind) refl
  where
    go : (b : Bool) → is_leaf l.site.style.kind ≡ b → once_t (node l ks) q found ≡ lay_t (node l ks) q found
    go true e = once_t_at l ks q found true e ∙ sym (lay_t_leaf l ks q found e)
    go false e =
        let f : Frame = frame_of l.site.style q found in
        once_t_at l ks q found false e ∙ rw (once_is l.site.style q found p, h f (start_of f)) (sym (lay_t_block l ks q found e))

more_same : (t : Tree Node) (ts : Forest Node) (f : Frame) (c : Cursor) → ((q : LayoutInput) → KnownWidth (style_t t) q → once_t t q zero_f ≡ lay_t t q zero_f) → ((d : Cursor) → once_f ts f (Some (inner_width f)) d ≡ lay_f ts f d)
    → once_f (more t ts) f (Some (inner_width f)) c ≡ lay_f (more t ts) f c
more_same t ts f c h k = go (flow_of (style_t t)) refl
  where
    go : (w : Flow) → flow_of (style_t t) ≡ w → once_f (more t ts) f (Some (inner_width f)) c ≡ lay_f (more t ts) f c
    go Gone e = once_f_at t ts f (Some (inner_width f)) c Gone e ∙ skip_same c t _ _ k ∙ sym (lay_f_gone t ts f c e)
    go Out e = once_f_at t ts f (Some (inner_width f)) c Out e ∙ aside_same f c t _ _ k ∙ sym (lay_f_out t ts f c e)
    go In e =
        once_f_at t ts f (Some (inner_width f)) c In e ∙ rw (item_is f (style_t t), ← question_is f (style_t t)) (place_is f c (style_t t) _ _)
        ∙ place_same f c (style_t t) _ _ _ _ (ask_same t (question_to f (style_t t)) (h (question_to f (style_t t)) (child_known f (style_t t)))) k ∙ sym (lay_f_in t ts f c e)

mutual
  unfolding root_t

  same_t : (t : Tree Node) (q : LayoutInput) (found : Float) → KnownWidth (style_t t) q → once_t t q found ≡ lay_t t q found
  same_t (node l ks) q found p = node_same l ks q found p (λ f c. same_f_lem ks f c)

  same_f_lem : (ts : Forest Node) (f : Frame) (c : Cursor) → once_f ts f (Some (inner_width f)) c ≡ lay_f ts f c
  same_f_lem none f c = once_f_none f (Some (inner_width f)) c ∙ sym (lay_f_none f c)
  same_f_lem (more t ts) f c = more_same t ts f c (λ q p. same_t t q zero_f p) (λ d. same_f_lem ts f d)

-- ---- A page whose root has a known width is laid out and relaid as before.
pub known_width_as_before : (t : Tree Cell) (q : LayoutInput) → KnownWidth (style_t (width_pass t q).nodes) q → relaid_once t q ≡ relaid t q
unfolding relaid_once relaid
known_width_as_before t q h = same_t (width_pass t q).nodes q (width_pass t q).found h
