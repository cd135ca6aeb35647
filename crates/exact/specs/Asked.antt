-- A child keeps the width that it is asked, over whole numbers: it was already larger than padding+border. Assumes nothing.
use Rattle.std.specs.Prelude.{◌≡◌, refl, Bool, true, false, cond, ℤ, pos, ◌-ℤ◌}
use Rattle.std.proofs.Common.{◌∙◌}
use Rattle.std.specs.Int.Signed.{lt_z}
use Rattle.style.specs.Flow.{is_leaf}
use Rattle.tree.specs.Tree.{Tree, Forest, node, root_t}
use Rattle.whole.specs.More.{max_z}
use Rattle.integers.specs.Numbers.{SomeZ, unwrap_or_z, or_else_z, clamped_z, floor_opt_z, across_z, sides_z}
use Rattle.integers.specs.Styles.{StyleZ, InputZ}
use Rattle.integers.specs.Boxes.{box_of_z, known_axis_z, known_z}
use Rattle.integers.specs.Widths.{NodeZ}
use Rattle.integers.specs.Stacks.{FrameZ, step_iz, frame_of_z, inner_width_z, item_of_z, asked_width_z, child_input_z, question_to_z}
use Rattle.integers.specs.Heights.{output_of_z, finished_z, leaf_output_z}
use Rattle.integers.specs.Layout.{StackedZ, leaf_laid_z, block_laid_z, lay_tz}
use Rattle.integers.proofs.Clauses.{lay_tz_at}

one_of : (t : Bool) (p : ℤ) → cond t p p ≡ p
one_of true p = refl
one_of false p = refl

larger_again : (c p : ℤ) → max_z (max_z c p) p ≡ max_z c p
larger_again c p = go (lt_z c p) refl
  where
    go : (t : Bool) → lt_z c p ≡ t → max_z (cond t p c) p ≡ cond t p c
    go true e = one_of (lt_z p p) p
    go false e = rw e

abbrev padded : StyleZ → ℤ → ℤ
padded s c = max_z c (across_z (box_of_z s).both)

leaf_width_lem : (y : NodeZ) (us : Forest NodeZ) (z : InputZ) (c : ℤ) → z.known.width ≡ SomeZ (padded y.style c) → (leaf_laid_z y z us).out.size.width ≡ padded y.style c
unfolding leaf_laid_z leaf_output_z unwrap_or_z
leaf_width_lem y us z c e = rw e

frame_width : (s : StyleZ) (z : InputZ) (k c : ℤ) → z.known.width ≡ SomeZ (padded s c) → (frame_of_z s z k).width ≡ padded s c
unfolding frame_of_z step_iz known_z known_axis_z floor_opt_z or_else_z unwrap_or_z
frame_width s z k c e = rw e (larger_again c (across_z (box_of_z s).both))

block_width : (y : NodeZ) (z : InputZ) (f : FrameZ) (a : StackedZ) → (block_laid_z y z f a).out.size.width ≡ f.width
unfolding block_laid_z finished_z output_of_z
block_width y z f a = refl

node_width : (y : NodeZ) (us : Forest NodeZ) (z : InputZ) (k c : ℤ) → z.known.width ≡ SomeZ (padded y.style c) → (lay_tz (node y us) z k).out.size.width ≡ padded y.style c
node_width y us z k c e = go (is_leaf y.style.kind) refl
  where
    go : (t : Bool) → is_leaf y.style.kind ≡ t → (lay_tz (node y us) z k).out.size.width ≡ padded y.style c
    go true h = rw (lay_tz_at y us z k true h) (leaf_width_lem y us z c e)
    go false h = rw (lay_tz_at y us z k false h) (block_width y z (frame_of_z y.style z k) _ ∙ frame_width y.style z k c e)

asked_node : (y : NodeZ) (us : Forest NodeZ) (g : FrameZ) → (lay_tz (node y us) (question_to_z g y.style) (pos 0)).out.size.width ≡ asked_width_z g (item_of_z g y.style)
unfolding question_to_z child_input_z asked_width_z item_of_z
asked_node y us g =
    let z = box_of_z y.style in
    node_width y us (question_to_z g y.style) (pos 0) (clamped_z (unwrap_or_z z.size.width (inner_width_z g -ℤ across_z (sides_z y.style.margin))) z.min.width z.max.width) refl

pub asked_kept : (u : Tree NodeZ) (g : FrameZ) → (lay_tz u (question_to_z g (root_t u).style) (pos 0)).out.size.width ≡ asked_width_z g (item_of_z g (root_t u).style)
unfolding root_t
asked_kept (node y us) g = asked_node y us g
