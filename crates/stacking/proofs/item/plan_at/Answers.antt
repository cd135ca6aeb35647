use mathlib.Core.Path.{refl}
use Rattle.steps.specs.Stack.{question_to}
use borrow.Author.Rules.{rules}
use Rattle.stacking.proofs.item.plan_at.Goals as goal

pub returns : goal.returns
unfolding question_to
returns c = let a = c.args in
    rw (c.footing_of.ensures, c.child_input.ensures c.at-r.result.numbers.now, c.item_of-i.ensures, c.at-r.ensures.style) record { input = refl; footing = refl }
