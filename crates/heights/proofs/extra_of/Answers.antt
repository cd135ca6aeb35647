use Rattle.steps.specs.Height.{extra_of}
use borrow.Author.Rules.{rules}
use Rattle.heights.proofs.extra_of.Goals as goal

pub returns : goal.returns
unfolding extra_of
returns c = rw (c.pick.ensures, c.resolve.ensures, c.ends_or_tops.ensures)
