-- Step H is gone (request 9): it resolved padding and border again, against the parent width, else the own width. Wherever it was reached the parent width was there,
-- so it gave A's. The final pass as it was, with H, and that it leaves the same rows, for any old rows.
use Rattle.std.specs.Prelude.{◌≡◌, refl, Bool, true, false, Float, is_some, unwrap_or}
use Rattle.std.proofs.Common.{sym, ap, ◌∙◌}
use Rattle.geometry.specs.Geometry.{zero_f}
use Rattle.length.specs.Length.{resolved_rect}
use Rattle.style.specs.Flow.{is_leaf}
use Rattle.style.specs.declared.Style.{Style}
use Rattle.tree.specs.Tree.{Tree, Forest, node, none, more, map_t}
use Rattle.steps.specs.Sizing.{sizing_of, sized_by, known_of}
use Rattle.steps.specs.Edges.{frame_of}
use Rattle.steps.specs.Stack.{start_of}
use Rattle.steps.specs.Page.{Site, Cell, Node, blank}
use Rattle.steps.specs.Question.{root_input}
use Rattle.steps.specs.Probe.{width_pass}
use Rattle.steps.specs.Layout.{lay_t, lay_f, relaid, fresh}
use Rattle.steps.specs.declared.LayoutInput.{LayoutInput}
use Rattle.steps.specs.declared.Question.{Question}
use Rattle.steps.specs.declared.Frame.{Frame}
use Rattle.steps.specs.declared.Cursor.{Cursor}
use Rattle.steps.proofs.Clauses.{lay_t_leaf, lay_t_block, lay_f_none}
use Rattle.laws.specs.StepH.{basis_again, frame_again, again_t, again_f, relaid_again, root_parent, same_basis, both_is, step_same, again_t_at, again_f_none, more_same}

-- ---- so H gives A's padding and border
pub h_gives_padding : (s : Style) (q : LayoutInput) (w : Float) → is_some q.parent ≡ true → resolved_rect s.padding (basis_again q.parent w) ≡ (sizing_of s q.parent q.basis).padding
unfolding sizing_of sized_by
h_gives_padding s q w e = ap (resolved_rect s.padding) (same_basis q.parent w e)

pub h_gives_border : (s : Style) (q : LayoutInput) (w : Float) → is_some q.parent ≡ true → resolved_rect s.border (basis_again q.parent w) ≡ (sizing_of s q.parent q.basis).border
unfolding sizing_of sized_by
h_gives_border s q w e = ap (resolved_rect s.border) (same_basis q.parent w e)

frame_same : (s : Style) (q : LayoutInput) (found : Float) → is_some q.parent ≡ true → frame_again s q found ≡ frame_of s q found
unfolding frame_again frame_of
frame_same s q found e =
    let z = sizing_of s q.parent q.basis in
    let w = unwrap_or (known_of s z q.known).width found in
    rw (h_gives_padding s q w e, h_gives_border s q w e) (step_same s q z (known_of s z q.known) w (both_is s q.parent q.basis))

node_same : (l : Node) (ks : Forest Node) (q : LayoutInput) (found : Float) → is_some q.parent ≡ true → ((f : Frame) (c : Cursor) → again_f ks f c ≡ lay_f ks f c) → again_t (node l ks) q found ≡ lay_t (node l ks) q found
node_same l ks q found p h = go (is_leaf l.site.style.kind) refl
  where
    go : (b : Bool) → is_leaf l.site.style.kind ≡ b → again_t (node l ks) q found ≡ lay_t (node l ks) q found
    go true e = again_t_at l ks q found true e ∙ sym (lay_t_leaf l ks q found e)
    go false e =
        let f : Frame = frame_of l.site.style q found in
        again_t_at l ks q found false e ∙ rw (frame_same l.site.style q found p, h f (start_of f)) (sym (lay_t_block l ks q found e))

mutual
  same_t : (t : Tree Node) (q : LayoutInput) (found : Float) → is_some q.parent ≡ true → again_t t q found ≡ lay_t t q found
  same_t (node l ks) q found p = node_same l ks q found p (λ f c. same_f_lem ks f c)

  same_f_lem : (ts : Forest Node) (f : Frame) (c : Cursor) → again_f ts f c ≡ lay_f ts f c
  same_f_lem none f c = again_f_none f c ∙ sym (lay_f_none f c)
  same_f_lem (more t ts) f c = more_same t ts f c (λ q p. same_t t q zero_f p) (λ d. same_f_lem ts f d)

-- ---- With H or without it: one answer and the same rows, for every page, question and old rows.
pub h_changes_nothing : (t : Tree Cell) (q : Question) → relaid_again t (root_input q) ≡ relaid t (root_input q)
unfolding relaid_again relaid
h_changes_nothing t q = same_t (width_pass t (root_input q)).nodes (root_input q) (width_pass t (root_input q)).found (root_parent q)

pub fresh_without_h : (t : Tree Site) (q : Question) → relaid_again (map_t blank t) (root_input q) ≡ fresh t (root_input q)
unfolding fresh
fresh_without_h t q = h_changes_nothing (map_t blank t) q
