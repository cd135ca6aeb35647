use Rattle.steps.specs.Probe.{found_width}
use borrow.Author.Rules.{rules}
use Rattle.widths.proofs.width_from.Goals as goal

pub returns : goal.returns
unfolding found_width
returns c = rw (c.content_width.ensures, c.content_box_inset.ensures, c.sizing_without_height_basis-z.ensures)
