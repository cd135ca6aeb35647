-- The marks of nodes below kept ones, clause by clause.
use Rattle.std.specs.Prelude.{◌≡◌, refl, Bool, true, false, Float}
use Rattle.std.proofs.Common.{ap, ◌∙◌}
use Rattle.geometry.specs.Geometry.{zero_f}
use Rattle.tree.specs.Tree.{Tree, Forest, node, none, more, map_t, map_f, on_root}
use Rattle.style.specs.Flow.{is_leaf, flow_of}
use Rattle.steps.specs.Edges.{frame_of}
use Rattle.steps.specs.Stack.{question_to}
use Rattle.steps.specs.Page.{Node}
use Rattle.steps.specs.Kept.{kept}
use Rattle.style.specs.declared.Flow.{Flow}
use Rattle.steps.specs.declared.LayoutInput.{LayoutInput}
use Rattle.steps.specs.declared.Frame.{Frame}
use Rattle.steps.proofs.Clauses.{by_test, by_flow, style_t}
use Rattle.laws.specs.Trees.{top_t, kids_t}
use Rattle.laws.specs.Below.{under, below_t, below_f}

-- the marks of a child that is answered
unfoldable pub marks_in : Tree Node → Frame → Tree Bool
marks_in t f = by_test (kept t (question_to f (style_t t))) (under t) (below_t t (question_to f (style_t t)) zero_f)

-- the marks of a child
unfoldable pub marks_of : Tree Node → Frame → Tree Bool
marks_of t f = by_flow (flow_of (style_t t)) (map_t (λ _. false) t) (map_t (λ _. false) t) (marks_in t f)

pub below_none : (f : Frame) → below_f none f ≡ none
unfolding below_f
below_none f = refl

pub below_more : (t : Tree Node) (ts : Forest Node) (f : Frame) → below_f (more t ts) f ≡ more (marks_of t f) (below_f ts f)
unfolding below_f marks_of marks_in
below_more t ts f = refl

pub below_top : (t : Tree Node) (q : LayoutInput) (found : Float) → top_t (below_t t q found) ≡ false
unfolding below_t
below_top (node n ks) q found = refl

kids_by : (n : Node) (ks : Forest Node) (q : LayoutInput) (found : Float) → kids_t (below_t (node n ks) q found) ≡ by_test (is_leaf n.site.style.kind) (map_f (λ _. false) ks) (below_f ks (frame_of n.site.style q found))
unfolding below_t
kids_by n ks q found = refl

pub below_leaf : (n : Node) (ks : Forest Node) (q : LayoutInput) (found : Float) → is_leaf n.site.style.kind ≡ true → kids_t (below_t (node n ks) q found) ≡ map_f (λ _. false) ks
below_leaf n ks q found e = kids_by n ks q found ∙ ap (λ (b : Bool). by_test b (map_f (λ _. false) ks) (below_f ks (frame_of n.site.style q found))) e

pub below_block : (n : Node) (ks : Forest Node) (q : LayoutInput) (found : Float) → is_leaf n.site.style.kind ≡ false → kids_t (below_t (node n ks) q found) ≡ below_f ks (frame_of n.site.style q found)
below_block n ks q found e = kids_by n ks q found ∙ ap (λ (b : Bool). by_test b (map_f (λ _. false) ks) (below_f ks (frame_of n.site.style q found))) e

pub marks_at : (t : Tree Node) (f : Frame) (w : Flow) → flow_of (style_t t) ≡ w → marks_of t f ≡ by_flow w (map_t (λ _. false) t) (map_t (λ _. false) t) (marks_in t f)
unfolding marks_of
marks_at t f w e = ap (λ (v : Flow). by_flow v (map_t (λ _. false) t) (map_t (λ _. false) t) (marks_in t f)) e

pub marks_kept : (t : Tree Node) (f : Frame) → kept t (question_to f (style_t t)) ≡ true → marks_in t f ≡ under t
unfolding marks_in
marks_kept t f e = ap (λ (b : Bool). by_test b (under t) (below_t t (question_to f (style_t t)) zero_f)) e

pub marks_laid : (t : Tree Node) (f : Frame) → kept t (question_to f (style_t t)) ≡ false → marks_in t f ≡ below_t t (question_to f (style_t t)) zero_f
unfolding marks_in
marks_laid t f e = ap (λ (b : Bool). by_test b (under t) (below_t t (question_to f (style_t t)) zero_f)) e

pub top_under : {A : Type 0} (t : Tree A) → top_t (under t) ≡ false
unfolding under on_root map_t
top_under (node a ks) = refl

pub top_false : {A : Type 0} (t : Tree A) → top_t (map_t (λ _. false) t) ≡ false
unfolding map_t
top_false (node a ks) = refl
