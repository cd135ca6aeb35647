use Rattle.margin.specs.Margin.{joined_with}
use borrow.Author.Rules.{rules}
use Rattle.margin.proofs.CollapsibleMarginSet.collapse_with_margin.Goals as goal

pub returns : goal.returns
unfolding joined_with
returns c = rw (c.collapse_with_set.ensures, c.from_margin.ensures)
