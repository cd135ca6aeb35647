use Rattle.steps.specs.Probe.{space_in}
use borrow.Author.Rules.{rules}
use Rattle.widths.proofs.available_inside.Goals as goal

pub returns : goal.returns
unfolding space_in
returns c = rw (c.maybe_sub.ensures, c.inset_across.ensures)
