use borrow.Author.Tests.{eq-eqb, ne_eqb}
use Rattle.index.specs.Entries.{not_above}
use borrow.Author.Rules.{rules}
use Rattle.index.proofs.list.not_above.Goals as goal

pub returns-then-k-eq0 : goal.returns-then-k-eq0
unfolding not_above
returns-then-k-eq0 c = rw (eq-eqb _ _ c.if-k-eq0.true)

pub returns : goal.returns
unfolding not_above
returns c = rw (ne_eqb _ _ c.if-k-eq0.false)
