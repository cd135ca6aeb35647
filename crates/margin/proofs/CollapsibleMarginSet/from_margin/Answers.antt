use Rattle.margin.specs.Margin.{set_of}
use borrow.Author.Rules.{rules}
use Rattle.margin.proofs.CollapsibleMarginSet.from_margin.Goals as goal

pub returns : goal.returns
unfolding set_of
returns c = rw (c.f32_min.ensures, c.f32_max.ensures)
