-- Both passes without rows: what a tree of sites answers, and nothing more.
use Rattle.std.specs.Prelude.{true, false, Float, Option, None, Some}
use Rattle.geometry.specs.Geometry.{zero_f}
use Rattle.geometry.specs.declared.Size.{Size}
use Rattle.util.specs.Math.{larger}
use Rattle.length.specs.declared.AvailableSpace.{AvailableSpace}
use Rattle.style.specs.declared.Style.{Style}
use Rattle.tree.specs.Tree.{Tree, Forest, node, none, more, root_t}
use Rattle.steps.specs.Sizing.{step_a, step_b, known_of}
use Rattle.style.specs.Flow.{is_leaf, flow_of}
use Rattle.steps.specs.Width.{want_of, outer_width, leaf_width}
use Rattle.steps.specs.Edges.{frame_of}
use Rattle.steps.specs.Stack.{start_of, item_of, question_to, stepped, past_aside, past_hidden}
use Rattle.steps.specs.Through.{finished, leaf_output}
use Rattle.steps.specs.Page.{Site}
use Rattle.steps.specs.Probe.{probe_known, space_in, found_width}
use Rattle.steps.specs.SizeQuestion.{step_c, size_below}
use Rattle.style.specs.declared.Flow.{Flow}
use Rattle.style.specs.declared.Flow.TheVariants.{Gone, Out, In}
use Rattle.steps.specs.declared.Want.{Want}
use Rattle.steps.specs.declared.Want.TheVariants.{Nothing, Outer}
use Rattle.steps.specs.declared.Want.TheVariants as want
use Rattle.steps.specs.declared.ProbeInput.{ProbeInput}
use Rattle.steps.specs.declared.LayoutInput.{LayoutInput}
use Rattle.steps.specs.declared.LayoutOutput.{LayoutOutput}
use Rattle.steps.specs.declared.RequestedAxis.{RequestedAxis}
use Rattle.steps.specs.declared.Frame.{Frame}
use Rattle.steps.specs.declared.Cursor.{Cursor}

-- a width that is known, else the one that F finds
unfoldable pub width_by : Style → Option Float → Float → Float
width_by s (Some w) most = w
width_by s None most = found_width s None most

-- F: a probe of a tree, and the widest of a forest
unfoldable mutual
  pub width_t : Tree Site → ProbeInput → Float
  width_t (node l ks) q =
      elim (is_leaf l.style.kind) [
        | true ↦ leaf_width l.style.measure q.available
        | false ↦ width_by l.style (probe_known l.style q).width (width_f ks (space_in l.style None q.available) zero_f)
      ]

  pub width_f : Forest Site → AvailableSpace → Float → Float
  width_f none a m = m
  width_f (more t ts) a m =
      elim (want_of (root_t t).style a) [
        | Nothing ↦ width_f ts a m
        | Outer w ↦ width_f ts a (larger m w)
        | want.Probe q ↦ width_f ts a (larger m (outer_width (root_t t).style a (width_t t q)))
      ]

-- one child of F
unfoldable pub widen_by : Want → Tree Site → AvailableSpace → Float → Float
widen_by Nothing t a m = m
widen_by (Outer w) t a m = larger m w
widen_by (want.Probe q) t a m = larger m (outer_width (root_t t).style a (width_t t q))

unfoldable pub widened : Tree Site → AvailableSpace → Float → Float
widened t a m = widen_by (want_of (root_t t).style a) t a m

-- the final pass: the answer of a tree, and where the stack of a forest ends
unfoldable mutual
  pub size_t : Tree Site → LayoutInput → Float → LayoutOutput
  size_t (node l ks) q found =
      elim (is_leaf l.style.kind) [
        | true ↦ leaf_output l.style.measure q
        | false ↦ (finished l.style q (frame_of l.style q found) (size_f ks (frame_of l.style q found) (start_of (frame_of l.style q found)))).output
      ]

  pub size_f : Forest Site → Frame → Cursor → Cursor
  size_f none f c = c
  size_f (more t ts) f c =
      elim (flow_of (root_t t).style) [
        | Gone ↦ size_f ts f (past_hidden c)
        | Out ↦ size_f ts f (past_aside c)
        | In ↦ size_f ts f (stepped f c (item_of f (root_t t).style) (size_t t (question_to f (root_t t).style) zero_f))
      ]

-- one child of the stack
unfoldable pub past_by : Flow → Frame → Cursor → Tree Site → Cursor
past_by Gone f c t = past_hidden c
past_by Out f c t = past_aside c
past_by In f c t = stepped f c (item_of f (root_t t).style) (size_t t (question_to f (root_t t).style) zero_f)

unfoldable pub past_t : Frame → Cursor → Tree Site → Cursor
past_t f c t = past_by (flow_of (root_t t).style) f c t

-- what the width pass finds at the root; 0 where the width is known
unfoldable pub found_by : Style → Option Float → Option Float → Float → Float
found_by s parent (Some w) most = zero_f
found_by s parent None most = found_width s parent most

unfoldable pub found_t : Tree Site → LayoutInput → Option Float → Float
found_t (node l ks) q width = found_by l.style q.parent width (width_f ks (space_in l.style q.parent q.available) zero_f)

-- D, F, G and the whole layout
unfoldable pub rest_t : Tree Site → LayoutInput → RequestedAxis → Size Float
rest_t t q a =
    let z = step_a (root_t t).style q.parent in
    let known = known_of (root_t t).style z q.known in
    size_below a z known (found_t t q known.width) (size_t t q (found_t t q known.width)).size

-- C first
unfoldable pub dry_size : Tree Site → LayoutInput → RequestedAxis → Size Float
dry_size t q a =
    let b = step_b (step_a (root_t t).style q.parent) q.known in
    step_c a b.width b.height (rest_t t q a)
