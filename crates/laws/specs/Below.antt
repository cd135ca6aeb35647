-- Two pages with the same old rows and edits, and which nodes lie strictly below a node that a relayout keeps.
use Rattle.std.specs.Prelude.{◌≡◌, Bool, true, false, ℕ, Float}
use Rattle.geometry.specs.Geometry.{zero_f}
use Rattle.style.specs.declared.Style.{Style}
use Rattle.tree.specs.Tree.{Tree, Forest, node, none, more, map_t, map_f, root_t, on_root}
use Rattle.style.specs.Flow.{is_leaf, flow_of}
use Rattle.steps.specs.Edges.{frame_of}
use Rattle.steps.specs.Stack.{question_to}
use Rattle.steps.specs.Row.{Row}
use Rattle.steps.specs.Page.{Cell, Node}
use Rattle.steps.specs.Probe.{width_pass}
use Rattle.steps.specs.Kept.{kept}
use Rattle.style.specs.declared.Flow.TheVariants.{Gone, Out, In}
use Rattle.steps.specs.declared.LayoutInput.{LayoutInput}
use Rattle.steps.specs.declared.Frame.{Frame}

-- one tree holds both pages; `below` marks the nodes strictly below a kept one
pub record Two : Type 0 where
  pub node : ℕ
  pub one : Style
  pub two : Style
  pub old : Row
  pub edit : Bool
  pub below : Bool

abbrev pub page1 : Two → Cell
page1 l = record { site = record { node = l.node; style = l.one; edit = l.edit }; old = l.old }

abbrev pub page2 : Two → Cell
page2 l = record { site = record { node = l.node; style = l.two; edit = l.edit }; old = l.old }

abbrev pub below_of : Two → Bool
below_of l = l.below

-- the pages agree but below kept nodes, where they agree in kind and position
pub record Agree (l : Two) : Type 0 where
  pub style : l.below ≡ false → l.one ≡ l.two
  pub kind : l.one.kind ≡ l.two.kind
  pub position : l.one.position ≡ l.two.position

-- a kept node itself is not below one; all its subtree is
unfoldable pub under : {A : Type 0} → Tree A → Tree Bool
under t = on_root (λ _. false) (map_t (λ _. true) t)

-- The marks of the nodes after the width pass, by the recursion of the final pass: `kept` is its own.
unfoldable mutual
  pub below_t : Tree Node → LayoutInput → Float → Tree Bool
  below_t (node n ks) q found = node false (elim (is_leaf n.site.style.kind) [ true ↦ map_f (λ _. false) ks | false ↦ below_f ks (frame_of n.site.style q found) ])

  pub below_f : Forest Node → Frame → Forest Bool
  below_f none f = none
  below_f (more t ts) f =
      more
      (elim (flow_of (root_t t).site.style) [
        | Gone ↦ map_t (λ _. false) t
        | Out ↦ map_t (λ _. false) t
        | In ↦ elim (kept t (question_to f (root_t t).site.style)) [ true ↦ under t | false ↦ below_t t (question_to f (root_t t).site.style) zero_f ]
      ])
      (below_f ts f)

-- of a page asked at q
unfoldable pub below_kept : Tree Cell → LayoutInput → Tree Bool
below_kept t q =
    let p = width_pass t q in
    below_t p.nodes q p.found
