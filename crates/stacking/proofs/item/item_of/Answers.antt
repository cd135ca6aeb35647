use Rattle.reader.specs.Reader.{style_by}
use Rattle.steps.specs.Stack.{item_of}
use borrow.Author.Rules.{rules}
use Rattle.stacking.proofs.item.item_of.Goals as goal

pub returns : goal.returns
unfolding item_of style_by
returns c = rw (c.offset_by.ensures, c.is_auto-2.ensures, c.is_auto.ensures, c.resolve_or_zero.ensures, c.sizing_of.ensures) (rw (c.container_inner_width-inner.ensures, c.inset-inset.ensures, c.position_of-position.ensures, c.margin-margin.ensures))
