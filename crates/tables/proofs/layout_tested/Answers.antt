use mathlib.Core.Path.{sym, ◌∙◌}
use Rattle.tables.proofs.Passing.{early-then, early-good}
use Rattle.steps.specs.Noes.{and_then}
use borrow.Author.Rules.{rules}
use Rattle.tables.proofs.layout_tested.Goals as goal

pub returns-in_err-early_tested : goal.returns-in_err-early_tested
unfolding and_then
returns-in_err-early_tested c = rw early-then (search rules)

pub room_tested-requires : goal.room_tested-requires
room_tested-requires c = early-good _ _ _ _ _ (sym c.early_tested.ensures ∙ c.in_ok-early_tested.was)

pub returns : goal.returns
unfolding and_then
returns c = let a = c.args in
    let passed = sym c.early_tested.ensures ∙ c.in_ok-early_tested.was in
    rw (early-then, c.room_tested.ensures a.numbers.now, passed)
