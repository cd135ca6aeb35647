use Rattle.steps.specs.Sizing.{insets}
use borrow.Author.Rules.{rules}
use Rattle.sizing.proofs.content_box_inset.Goals as goal

pub returns : goal.returns
unfolding insets
returns c = rw (c.add.ensures, c.scrollbar_gutter.ensures)
