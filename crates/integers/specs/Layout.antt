-- Both passes over whole numbers: the layout of a page, with no old rows.
use Rattle.std.specs.Prelude.{true, false, ℤ, pos, ◌-ℤ◌}
use Rattle.style.specs.Flow.{is_leaf}
use Rattle.style.specs.declared.Flow.TheVariants.{Gone, Out, In}
use Rattle.tree.specs.Tree.{Tree, Forest, node, none, more, map_t, map_f, root_t, on_root}
use Rattle.integers.specs.Numbers.{MayZ, NoneZ, SomeZ}
use Rattle.integers.specs.Styles.{StyleZ, flow_z, InputZ}
use Rattle.integers.specs.Widths.{NodeZ, width_pass_z}
use Rattle.integers.specs.Rows.{OutputZ, RowZ, no_row_z, hidden_row_z, aside_row_z, laid_row_z, put_at_z, lowered_z}
use Rattle.integers.specs.Stacks.{FrameZ, CursorZ, frame_of_z, start_of_z, item_of_z, question_to_z, place_of_z, stepped_z, line_of_z, past_aside_z, past_hidden_z}
use Rattle.integers.specs.Heights.{finished_z, leaf_output_z}

-- an answer and the rows of a subtree; a cursor past the last child and the rows of the children
pub record LaidZ : Type 0 where
  pub out : OutputZ
  pub rows : Tree RowZ

pub record StackedZ : Type 0 where
  pub last : CursorZ
  pub rows : Forest RowZ

-- rows of zeros
unfoldable pub zeros_tz : {A : Type 0} → Tree A → Tree RowZ
zeros_tz t = map_t (λ _. no_row_z) t

unfoldable pub zeros_fz : {A : Type 0} → Forest A → Forest RowZ
zeros_fz ts = map_f (λ _. no_row_z) ts

-- M: the shift on each child's place y or line
unfoldable pub lower_fz : ℤ → Forest RowZ → Forest RowZ
lower_fz d none = none
lower_fz d (more t ts) = more (on_root (lowered_z d) t) (lower_fz d ts)

unfoldable pub align_fz : MayZ → Forest RowZ → Forest RowZ
align_fz NoneZ ts = ts
align_fz (SomeZ d) ts = lower_fz d ts

-- a leaf, and a container whose children are stacked
unfoldable pub leaf_laid_z : NodeZ → InputZ → Forest NodeZ → LaidZ
leaf_laid_z l q ks =
    let o = leaf_output_z l.style.measure q in
    record { out = o; rows = node (laid_row_z q o l.probe) (zeros_fz ks) }

unfoldable pub block_laid_z : NodeZ → InputZ → FrameZ → StackedZ → LaidZ
block_laid_z l q f s =
    let d = finished_z l.style f s.last in
    record { out = d.output; rows = node (laid_row_z q d.output l.probe) (align_fz d.shift s.rows) }

-- J: a hidden child, a shown out-of-flow child, an in-flow child once it is answered
unfoldable pub skip_z : CursorZ → Tree NodeZ → (CursorZ → StackedZ) → StackedZ
skip_z c t rest =
    let s = rest (past_hidden_z c) in
    record { last = s.last; rows = more (on_root (λ _. hidden_row_z c.count) (zeros_tz t)) s.rows }

unfoldable pub aside_z : FrameZ → CursorZ → Tree NodeZ → (CursorZ → StackedZ) → StackedZ
aside_z f c t rest =
    let s = rest (past_aside_z c) in
    record { last = s.last; rows = more (on_root (λ _. aside_row_z f.inset.left (line_of_z f c) (f.width -ℤ f.inset.right) c.shown) (zeros_tz t)) s.rows }

unfoldable pub place_z : FrameZ → CursorZ → StyleZ → LaidZ → (CursorZ → StackedZ) → StackedZ
place_z f c st a rest =
    let i = item_of_z f st in
    let s = rest (stepped_z f c i a.out) in
    record { last = s.last; rows = more (on_root (put_at_z (place_of_z f c i a.out) c.shown) a.rows) s.rows }

-- the final pass
unfoldable mutual
  pub lay_tz : Tree NodeZ → InputZ → ℤ → LaidZ
  lay_tz (node l ks) q found =
      elim (is_leaf l.style.kind) [
        | true ↦ leaf_laid_z l q ks
        | false ↦
            let f : FrameZ = frame_of_z l.style q found in
            block_laid_z l q f (lay_fz ks f (start_of_z f))
      ]

  pub lay_fz : Forest NodeZ → FrameZ → CursorZ → StackedZ
  lay_fz none f c = record { last = c; rows = none }
  lay_fz (more t ts) f c =
      elim (flow_z (root_t t).style) [
        | Gone ↦ skip_z c t (lay_fz ts f)
        | Out ↦ aside_z f c t (lay_fz ts f)
        | In ↦ place_z f c (root_t t).style (lay_tz t (question_to_z f (root_t t).style) (pos 0)) (lay_fz ts f)
      ]

-- the width pass, then the final pass
unfoldable pub fresh_z : Tree StyleZ → InputZ → LaidZ
fresh_z t q =
    let p = width_pass_z t q in
    lay_tz p.nodes q p.found
