use Rattle.steps.specs.Stack.{relative_offset}
use borrow.Author.Rules.{rules}
use Rattle.stacking.proofs.item.resolve_relative_offset.Goals as goal

pub returns : goal.returns
unfolding relative_offset
returns c = rw (c.unwrap_or.ensures, c.or.ensures, c.negated.ensures, c.maybe_resolve-4.ensures, c.maybe_resolve-3.ensures, c.offset_x.ensures, c.maybe_resolve-2.ensures, c.maybe_resolve.ensures)
