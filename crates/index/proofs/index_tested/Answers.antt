use mathlib.Core.Path.{◌≡◌}
use Rattle.std.specs.Prelude.{Result, Err, ⊤}
use Rattle.index.specs.declared.IndexRefusal.{IndexRefusal}
use Rattle.index.specs.declared.IndexRefusal.TheVariants.{Plain}
use mathlib.Core.Path.{sym, ◌∙◌}
use Rattle.index.proofs.Testing.{uneven-slices, rows-refused, rows-passed}
use borrow.Author.Rules.{rules}
use Rattle.index.proofs.index_tested.Goals as goal

pub returns-then-is_uneven : goal.returns-then-is_uneven
returns-then-is_uneven c = uneven-slices _ _ _ _ _ _ _ (sym c.is_uneven.ensures ∙ c.if-is_uneven.true)

pub returns-in_err-rows_tested : goal.returns-in_err-rows_tested
returns-in_err-rows_tested c =
    let no : ◌≡◌ {A = Result ⊤ IndexRefusal} c.from_residual.result (Err (Plain c.in_err-rows_tested.field-0.0)) = search rules in
    rw no (rows-refused _ _ _ _ _ _ _ (sym c.is_uneven.ensures ∙ c.if-is_uneven.false) _ (sym c.rows_tested.ensures ∙ search rules))

pub returns : goal.returns
returns c = rows-passed _ _ _ _ _ _ _ (sym c.is_uneven.ensures ∙ c.if-is_uneven.false) _ (sym c.rows_tested.ensures ∙ c.in_ok-rows_tested.was) c.list_tested.ensures
