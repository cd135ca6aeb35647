use borrow.Author.Tests.{eq-eqb, ne_eqb}
use Rattle.codes.proofs.UnitTests.{first_three, second-three, first-auto, last-mask}
use Rattle.codes.proofs.some_bad_unit.Goals as goal

pub returns-then-u-ne0 : goal.returns-then-u-ne0
returns-then-u-ne0 c = let a = c.args in
    first_three a.u a.v (ne_eqb _ _ c.if-u-ne0.true)

pub returns-then-v-ne0 : goal.returns-then-v-ne0
returns-then-v-ne0 c = let a = c.args in
    second-three a.u a.v (ne_eqb _ _ c.if-v-ne0.true)

pub returns-then-p-ne85 : goal.returns-then-p-ne85
returns-then-p-ne85 c = let a = c.args in
    first-auto a.u a.v (ne_eqb _ _ c.if-p-ne85.true)

pub returns : goal.returns
returns c = let a = c.args in
    last-mask a.u a.v (eq-eqb _ _ c.if-u-ne0.false) (eq-eqb _ _ c.if-v-ne0.false) (eq-eqb _ _ c.if-p-ne85.false)
