use Rattle.steps.specs.Width.{leaf_width}
use borrow.Author.Rules.{rules}
use Rattle.widths.proofs.leaf_width.Goals as goal

pub returns-in-Definite : goal.returns-in-Definite
unfolding leaf_width
returns-in-Definite c = rw (c.maybe_clamp.ensures, c.in-Definite.is)

pub returns-in-MinContent : goal.returns-in-MinContent
unfolding leaf_width
returns-in-MinContent c = rw c.in-MinContent.is

pub returns-in-MaxContent : goal.returns-in-MaxContent
unfolding leaf_width
returns-in-MaxContent c = rw c.in-MaxContent.is
