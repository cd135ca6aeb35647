use borrow.Author.Tests.{eq-eqb, ne_eqb}
use Rattle.steps.specs.Noes.{ratio_beside_fraction}
use borrow.Author.Rules.{rules}
use Rattle.codes.proofs.ratio_beside_fraction.Goals as goal

pub returns-then-number : goal.returns-then-number
unfolding ratio_beside_fraction
returns-then-number c = rw (← c.number.ensures, c.if-number.true)

pub returns-then-unit-eq2 : goal.returns-then-unit-eq2
unfolding ratio_beside_fraction
returns-then-unit-eq2 c = rw (← c.number.ensures, c.if-number.false, ← c.word-u.ensures, ← c.word-v.ensures, ← c.unit.ensures, eq-eqb _ _ c.if-unit-eq2.true)

pub returns-then-unit-eq2-2 : goal.returns-then-unit-eq2-2
unfolding ratio_beside_fraction
returns-then-unit-eq2-2 c = rw (← c.number.ensures, c.if-number.false, ← c.word-u.ensures, ← c.word-v.ensures, ← c.unit.ensures, ← c.unit-2.ensures, eq-eqb _ _ c.if-unit-eq2-2.true, ne_eqb _ _ c.if-unit-eq2.false)

pub returns : goal.returns
unfolding ratio_beside_fraction
returns c = rw (← c.number.ensures, c.if-number.false, ← c.word-u.ensures, ← c.word-v.ensures, ← c.unit.ensures, ← c.unit-2.ensures, ← c.unit-3.ensures, ne_eqb _ _ c.if-unit-eq2-2.false, ne_eqb _ _ c.if-unit-eq2.false)
