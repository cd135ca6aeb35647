use Rattle.reader.specs.Reader.{style_by}
use Rattle.steps.specs.Sizing.{gutter}
use borrow.Author.Rules.{rules}
use Rattle.sizing.proofs.scrollbar_gutter.Goals as goal

pub returns : goal.returns
unfolding gutter style_by
returns c = rw (c.pick-2.ensures, c.pick.ensures, c.bar-bottom.ensures, c.bar-side.ensures, c.scrollbar-width.ensures, c.flag-rtl.ensures, c.overflow_of-o.ensures)
