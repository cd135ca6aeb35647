-- The marks of nodes below kept ones, clause by clause.
use Rattle.std.specs.Prelude.{◌≡◌, refl, Bool, true, false}
use Rattle.std.proofs.Common.{ap, ◌∙◌}
use Rattle.geometry.specs.Geometry.{zero_f}
use Rattle.tree.specs.Tree.{Tree}
use Rattle.style.specs.Flow.{flow_of}
use Rattle.steps.specs.Stack.{question_to}
use Rattle.steps.specs.Page.{Node}
use Rattle.steps.specs.Kept.{kept}
use Rattle.style.specs.declared.Flow.{Flow}
use Rattle.style.specs.declared.Flow.TheVariants.{Gone, Out, In}
use Rattle.steps.specs.declared.Frame.{Frame}
use Rattle.steps.proofs.Clauses.{style_t}
use Rattle.laws.specs.Trees.{top_t}
use Rattle.laws.specs.Marks.{marks_in, marks_of, below_top, marks_at, marks_kept, marks_laid, top_under, top_false}

-- the root of a child of a container that is laid out is not below a kept node
pub marks_top : (t : Tree Node) (f : Frame) → top_t (marks_of t f) ≡ false
marks_top t f = go (flow_of (style_t t)) refl
  where
    in_top : (b : Bool) → kept t (question_to f (style_t t)) ≡ b → top_t (marks_in t f) ≡ false
    in_top true e = ap top_t (marks_kept t f e) ∙ top_under t
    in_top false e = ap top_t (marks_laid t f e) ∙ below_top t _ zero_f

    go : (w : Flow) → flow_of (style_t t) ≡ w → top_t (marks_of t f) ≡ false
    go Gone e = ap top_t (marks_at t f Gone e) ∙ top_false t
    go Out e = ap top_t (marks_at t f Out e) ∙ top_false t
    go In e = ap top_t (marks_at t f In e) ∙ in_top (kept t (question_to f (style_t t))) refl
