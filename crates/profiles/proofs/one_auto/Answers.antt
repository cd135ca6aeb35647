use borrow.Author.Rules.{rules}
use borrow.Author.Tests.{eq-eqb, ne_eqb}
use mathlib.Core.Path.{ap}
use mathlib.Core.Bool.{not}
use Rattle.profiles.proofs.one_auto.Goals as goal

pub returns-then-i-eq0 : goal.returns-then-i-eq0
returns-then-i-eq0 c = rw (eq-eqb _ 0 c.if-i-eq0.true)

pub returns : goal.returns
returns c = rw (ne_eqb _ 0 c.if-i-eq0.false) (ap not c.sides_auto.ensures)
