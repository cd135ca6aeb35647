use Rattle.margin.specs.Margin.{joined}
use borrow.Author.Rules.{rules}
use Rattle.margin.proofs.CollapsibleMarginSet.collapse_with_set.Goals as goal

pub returns : goal.returns
unfolding joined
returns c = rw (c.f32_min.ensures, c.f32_max.ensures)
