use mathlib.Core.Path.{◌∙◌}
use Rattle.style.specs.Units.{unit_first, unit_second}
use borrow.Author.Rules.{rules}
use Rattle.style.proofs.unit.Goals as goal

pub returns-then-f-lt14 : goal.returns-then-f-lt14
returns-then-f-lt14 c = let a = c.args in
    c.code.ensures ∙ unit_first a.u a.v a.f c.if-f-lt14.true

pub returns-else-f-lt14 : goal.returns-else-f-lt14
returns-else-f-lt14 c = let a = c.args in
    c.code-else-f-lt14.ensures ∙ unit_second a.u a.v a.f c.if-f-lt14.false
