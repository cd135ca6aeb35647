-- The final pass, for any old rows. With no row laid nothing is kept: that is a fresh layout.
--   a container: frame (A to I), stack (J), K to N                 lay_t, over frame_of, lay_f, block_laid; a leaf: leaf_laid
--   J, whole: one child after the other                            lay_f; in flow: place; out of flow: aside; hidden: skip
--   M: the shift on each child's row                               lower_f, align_f
--   a child is kept or laid out                                    ask_t
-- both passes: relaid; of a page without rows: fresh.
use Rattle.std.specs.Prelude.{Bool, true, false, cond, ℕ, Float, Option, None, Some}
use Rattle.geometry.specs.Geometry.{zero_f}
use Rattle.geometry.specs.declared.Point.{Point}
use Rattle.style.specs.declared.Style.{Style}
use Rattle.tree.specs.Tree.{Tree, Forest, node, none, more, map_t, root_t, on_root}
use Rattle.style.specs.Flow.{is_leaf, flow_of}
use Rattle.steps.specs.Edges.{frame_of}
use Rattle.steps.specs.Stack.{start_of, item_of, question_to, place_of, stepped, line_of, edges_of, past_aside, past_hidden}
use Rattle.steps.specs.Through.{finished, leaf_output}
use Rattle.steps.specs.Row.{Row, no_row, hidden_row, aside_row, laid_row, put_at, lowered}
use Rattle.steps.specs.Page.{Site, Cell, Node, blank}
use Rattle.steps.specs.Probe.{width_pass}
use Rattle.steps.specs.Kept.{Laid, kept, keep, zeros_t, zeros_f}
use Rattle.style.specs.declared.Flow.{Flow}
use Rattle.style.specs.declared.Flow.TheVariants.{Gone, Out, In}
use Rattle.steps.specs.declared.LayoutInput.{LayoutInput}
use Rattle.steps.specs.declared.LayoutOutput.{LayoutOutput}
use Rattle.steps.specs.declared.Frame.{Frame}
use Rattle.steps.specs.declared.Cursor.{Cursor}

-- the cursor past the last child, and the rows of the children
pub record Stacked : Type 0 where
  pub last : Cursor
  pub rows : Forest Row

-- M: the shift on each child's place y or line
unfoldable pub lower_f : Float → Forest Row → Forest Row
lower_f d none = none
lower_f d (more t ts) = more (on_root (lowered d) t) (lower_f d ts)

unfoldable pub align_f : Option Float → Forest Row → Forest Row
align_f None ts = ts
align_f (Some d) ts = lower_f d ts

-- a leaf
unfoldable pub leaf_laid : Node → LayoutInput → Forest Node → Laid
leaf_laid l q ks =
    let o = leaf_output l.site.style.measure q in
    record { out = o; rows = node (laid_row q o l.probe) (zeros_f ks) }

-- a container whose children are stacked: K to N
unfoldable pub block_laid : Node → LayoutInput → Frame → Stacked → Laid
block_laid l q f s =
    let d = finished l.site.style q f s.last in
    record { out = d.output; rows = node (laid_row q d.output l.probe) (align_f d.shift s.rows) }

-- a hidden child: zero but for its order, which counts all siblings
unfoldable pub skip : Cursor → Tree Node → (Cursor → Stacked) → Stacked
skip c t rest =
    let s = rest (past_hidden c) in
    record { last = s.last; rows = more (on_root (λ _. hidden_row c.count) (zeros_t t)) s.rows }

-- a shown out-of-flow child: a candidate, zero below
unfoldable pub aside : Frame → Cursor → Tree Node → (Cursor → Stacked) → Stacked
aside f c t rest =
    let s = rest (past_aside c) in
    record { last = s.last; rows = more (on_root (λ _. aside_row (edges_of f).start (line_of f c) (edges_of f).end c.shown.0) (zeros_t t)) s.rows }

-- an in-flow child, once it is answered
unfoldable pub place : Frame → Cursor → Style → Laid → (Cursor → Stacked) → Stacked
place f c st a rest =
    let i = item_of f st in
    let s = rest (stepped f c i a.out) in
    record { last = s.last; rows = more (on_root (put_at (place_of f c i a.out) c.shown.0) a.rows) s.rows }

unfoldable mutual
  pub lay_t : Tree Node → LayoutInput → Float → Laid
  lay_t (node l ks) q found =
      elim (is_leaf l.site.style.kind) [
        | true ↦ leaf_laid l q ks
        | false ↦
            let f : Frame = frame_of l.site.style q found in
            block_laid l q f (lay_f ks f (start_of f))
      ]

  pub lay_f : Forest Node → Frame → Cursor → Stacked
  lay_f none f c = record { last = c; rows = none }
  lay_f (more t ts) f c =
      elim (flow_of (root_t t).site.style) [
        | Gone ↦ skip c t (lay_f ts f)
        | Out ↦ aside f c t (lay_f ts f)
        | In ↦
            place f c (root_t t).site.style
            (elim (kept t (question_to f (root_t t).site.style)) [ true ↦ keep t | false ↦ lay_t t (question_to f (root_t t).site.style) zero_f ])
            (lay_f ts f)
      ]

-- what a child is answered: kept, or laid out
unfoldable pub ask_t : Tree Node → LayoutInput → Laid
ask_t t q = elim (kept t q) [ true ↦ keep t | false ↦ lay_t t q zero_f ]

-- the width pass, then the final pass; the root is never kept
unfoldable pub relaid : Tree Cell → LayoutInput → Laid
relaid t q =
    let p = width_pass t q in
    lay_t p.nodes q p.found

-- fresh: no row is laid
unfoldable pub fresh : Tree Site → LayoutInput → Laid
fresh t q = relaid (map_t blank t) q
