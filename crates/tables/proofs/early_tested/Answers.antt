use mathlib.Core.Path.{sym, ◌∙◌}
use Rattle.tables.proofs.Passing.{sized}
use Rattle.tables.specs.Early.{early_tested}
use Rattle.steps.specs.Noes.{and_then}
use borrow.Author.Rules.{rules}
use native.Mathlib.Omega.{arith}
use Rattle.tables.proofs.early_tested.Goals as goal

pub returns-then-bad_tables : goal.returns-then-bad_tables
unfolding early_tested and_then
returns-then-bad_tables c = rw (← c.bad_tables.ensures, c.if-bad_tables.true)

pub bad_rows-requires : goal.bad_rows-requires
bad_rows-requires c = let a = c.args in
    (sized a.words.now a.numbers.now (sym c.bad_tables.ensures ∙ c.if-bad_tables.false)).few

pub returns-then-bad_rows : goal.returns-then-bad_rows
unfolding early_tested and_then
returns-then-bad_rows c = rw (← c.bad_tables.ensures, ← c.bad_rows.ensures, c.if-bad_rows.true, c.if-bad_tables.false)

pub page_tested-requires : goal.page_tested-requires
page_tested-requires c = let a = c.args in
    let s = sized a.words.now a.numbers.now (sym c.bad_tables.ensures ∙ c.if-bad_tables.false) in
    (s.few, omega (arith, s.numbers))

pub returns : goal.returns
unfolding early_tested and_then
returns c = rw (c.page_tested.ensures, ← c.bad_tables.ensures, ← c.bad_rows.ensures, c.if-bad_rows.false, c.if-bad_tables.false)
