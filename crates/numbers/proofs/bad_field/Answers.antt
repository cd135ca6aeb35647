use mathlib.Core.Path.{sym, ◌∙◌}
use borrow.Author.Rules.{rules}
use Rattle.steps.specs.Noes.{bad_field}
use Rattle.numbers.proofs.Limits.{good-between}
use Rattle.numbers.proofs.bad_field.Goals as goal

pub returns-then-in_range : goal.returns-then-in_range
returns-then-in_range c = let a = c.args in
    good-between a.f a.unit a.x (sym c.in_range.ensures ∙ c.if-in_range.true)

pub returns : goal.returns
unfolding bad_field
returns c = rw (c.in_range-2.ensures, c.least_of.ensures, c.most_of-most.ensures)
