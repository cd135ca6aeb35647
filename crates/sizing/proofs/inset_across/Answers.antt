use Rattle.geometry.specs.Geometry.{plus}
use Rattle.steps.specs.Sizing.{insets}
use borrow.Author.Rules.{rules}
use Rattle.sizing.proofs.inset_across.Goals as goal

pub returns : goal.returns
unfolding insets plus
returns c = rw (c.right_of.ensures, c.left_of.ensures, c.scrollbar_gutter-bar.ensures)
