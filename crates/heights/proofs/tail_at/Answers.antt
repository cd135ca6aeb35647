use Rattle.reader.specs.Reader.{style_by}
use Rattle.heights.specs.Tail.{tail_of}
use borrow.Author.Rules.{rules}
use Rattle.heights.proofs.tail_at.Goals as goal

pub returns : goal.returns
unfolding tail_of style_by
returns c = rw (← c.at-r.ensures.style, c.resolve_or_zero-2.ensures, c.margin_bottom.ensures, c.resolve_or_zero.ensures, c.margin_top.ensures, c.flag-2.ensures, c.flag.ensures, c.align_of.ensures)
