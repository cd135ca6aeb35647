-- It learns nothing, carried to tables.
use Rattle.std.specs.Prelude.{◌≡◌, refl, Bool, true, ℕ, Float}
use Rattle.std.proofs.Math.Path.{sym, ap}
use Rattle.std.proofs.Common.{◌∙◌}
use Rattle.std.proofs.Math.Bool.{false}
use mathlib.Core.List.{List}
use Rattle.geometry.specs.Geometry.{zero_f}
use Rattle.style.specs.Codes.{code_at, kind_of, position_of}
use Rattle.style.specs.Style.{word_at, style_at}
use Rattle.tree.specs.Tree.{Tree, Forest, node, none, more, map_t, map_f, on_root}
use Rattle.tree.proofs.Laws.{map_f_none, map_f_more, map_map_t, map_map_f}
use Rattle.style.specs.Flow.{is_leaf, flow_of}
use Rattle.steps.specs.Stack.{question_to}
use Rattle.steps.specs.Page.{Cell, Node}
use Rattle.steps.specs.Probe.{width_pass}
use Rattle.steps.specs.Kept.{kept}
use Rattle.style.specs.declared.Flow.{Flow}
use Rattle.style.specs.declared.Flow.TheVariants.{Gone, Out, In}
use Rattle.steps.specs.declared.LayoutInput.{LayoutInput}
use Rattle.steps.specs.declared.Frame.{Frame}
use Rattle.steps.proofs.Shape.{mute}
use Rattle.steps.proofs.Clauses.{style_t}
use Rattle.laws.specs.Trees.{top_t, kids_t}
use Rattle.laws.specs.Below.{under, below_t, below_f, below_kept}
use Rattle.laws.specs.Marks.{marks_of, marks_in, below_none, below_more, below_top, below_leaf, below_block, marks_at, marks_kept, marks_laid}
use Rattle.laws.specs.Shape.{pass_shape}

-- there is a mark for every node
under_shape : {A : Type 0} (t : Tree A) → map_t mute (under t) ≡ map_t mute t
unfolding under on_root map_t
under_shape {A} (node a ks) = ap (node tt) (map_map_f mute (λ (_ : A). true) ks)

top_kids : (u : Tree Bool) (b : Bool) → top_t u ≡ b → u ≡ node b (kids_t u)
top_kids (node a ks) b e = ap (λ (x : Bool). node x ks) e

node_shape : (n : Node) (ks : Forest Node) (q : LayoutInput) (found : Float) → ((f : Frame) → map_f mute (below_f ks f) ≡ map_f mute ks) → map_t mute (below_t (node n ks) q found) ≡ map_t mute (node n ks)
unfolding map_t
node_shape n ks q found h = ap (map_t mute) (top_kids (below_t (node n ks) q found) false (below_top (node n ks) q found)) ∙ ap (node tt) (go (is_leaf n.site.style.kind) refl)
  where
    go : (b : Bool) → is_leaf n.site.style.kind ≡ b → map_f mute (kids_t (below_t (node n ks) q found)) ≡ map_f mute ks
    go true e = ap (map_f mute) (below_leaf n ks q found e) ∙ map_map_f mute (λ (_ : Node). false) ks
    go false e = ap (map_f mute) (below_block n ks q found e) ∙ h _

marks_shape : (t : Tree Node) (f : Frame) → ((q : LayoutInput) → map_t mute (below_t t q zero_f) ≡ map_t mute t) → map_t mute (marks_of t f) ≡ map_t mute t
marks_shape t f h = go (flow_of (style_t t)) refl
  where
    in-shape : (b : Bool) → kept t (question_to f (style_t t)) ≡ b → map_t mute (marks_in t f) ≡ map_t mute t
    in-shape true e = ap (map_t mute) (marks_kept t f e) ∙ under_shape t
    in-shape false e = ap (map_t mute) (marks_laid t f e) ∙ h _

    go : (w : Flow) → flow_of (style_t t) ≡ w → map_t mute (marks_of t f) ≡ map_t mute t
    go Gone e = ap (map_t mute) (marks_at t f Gone e) ∙ map_map_t mute (λ (_ : Node). false) t
    go Out e = ap (map_t mute) (marks_at t f Out e) ∙ map_map_t mute (λ (_ : Node). false) t
    go In e = ap (map_t mute) (marks_at t f In e) ∙ in-shape (kept t (question_to f (style_t t))) refl

mutual
  shape_t : (t : Tree Node) (q : LayoutInput) (found : Float) → map_t mute (below_t t q found) ≡ map_t mute t
  shape_t (node n ks) q found = node_shape n ks q found (λ f. shape_f ks f)

  shape_f : (ts : Forest Node) (f : Frame) → map_f mute (below_f ts f) ≡ map_f mute ts
  shape_f none f = ap (map_f mute) (below_none f) ∙ map_f_none mute ∙ sym (map_f_none mute)
  shape_f (more t ts) f = ap (map_f mute) (below_more t ts f) ∙ rw (map_f_more, map_f_more, marks_shape t f (λ q. shape_t t q zero_f), shape_f ts f)

pub below_shape : (t : Tree Cell) (q : LayoutInput) → map_t mute (below_kept t q) ≡ map_t mute t
unfolding below_kept
below_shape t q = shape_t (width_pass t q).nodes q (width_pass t q).found ∙ pass_shape t q

-- kind and position as the words have them
pub same_kind : (ws : List ℕ) (xs : List Float) (ws' : List ℕ) (xs' : List Float) (i j : ℕ) → code_at (word_at ws i 1) 0 ≡ code_at (word_at ws' i 1) 0 → (style_at ws i xs j).kind ≡ (style_at ws' i xs' j).kind
unfolding style_at
same_kind ws xs ws' xs' i j e = ap kind_of e

pub same_position : (ws : List ℕ) (xs : List Float) (ws' : List ℕ) (xs' : List Float) (i j : ℕ) → code_at (word_at ws i 1) 2 ≡ code_at (word_at ws' i 1) 2 → (style_at ws i xs j).position ≡ (style_at ws' i xs' j).position
unfolding style_at
same_position ws xs ws' xs' i j e = ap position_of e
