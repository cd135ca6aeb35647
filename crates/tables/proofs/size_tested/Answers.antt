use mathlib.Core.Path.{sym, ◌∙◌}
use Rattle.tables.proofs.Passing.{sized}
use Rattle.steps.specs.Noes.{size_tested, and_then}
use borrow.Author.Rules.{rules}
use native.Mathlib.Omega.{arith}
use Rattle.tables.proofs.size_tested.Goals as goal

pub returns-then-bad_tables : goal.returns-then-bad_tables
unfolding size_tested and_then
returns-then-bad_tables c = rw (← c.bad_tables.ensures, c.if-bad_tables.true)

pub page_tested-requires : goal.page_tested-requires
page_tested-requires c = let a = c.args in
    let s = sized a.words.now a.numbers.now (sym c.bad_tables.ensures ∙ c.if-bad_tables.false) in
    (s.few, omega (arith, s.numbers))

pub returns : goal.returns
unfolding size_tested and_then
returns c = rw (c.page_tested.ensures, ← c.bad_tables.ensures, c.if-bad_tables.false)
