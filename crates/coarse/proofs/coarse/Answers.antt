use mathlib.Core.Path.{◌≡◌}
use Rattle.std.specs.Prelude.{Result, Err, ⊤}
use Rattle.coarse.specs.declared.CoarseRefusal.{CoarseRefusal}
use mathlib.Core.Path.{refl, sym, ◌∙◌}
use Rattle.coarse.proofs.Making.{accepted, shown, refused}
use borrow.Author.Rules.{rules}
use Rattle.coarse.proofs.coarse.Goals as goal

pub put_boxes-requires : goal.put_boxes-requires
put_boxes-requires c = let a = c.args in
    let l = accepted a.words.now a.rows.now a.marks.now a.out.now (sym c.coarse_tested.ensures ∙ c.in_ok-coarse_tested.was) in
    record { few = l.few; tree = (refl, l.tree); long = l.long }

pub returns : goal.returns
returns c = let a = c.args in
    shown a.words.now a.rows.now a.marks.now a.out.now (sym c.coarse_tested.ensures ∙ c.in_ok-coarse_tested.was) _ c.put_boxes.ensures

pub returns-in_err-coarse_tested : goal.returns-in_err-coarse_tested
returns-in_err-coarse_tested c = let a = c.args in
    let no : ◌≡◌ {A = Result ⊤ CoarseRefusal} c.from_residual.result (Err c.in_err-coarse_tested.field-0.0) = search rules in
    rw no (refused a.words.now a.rows.now a.marks.now a.out.now _ (sym c.coarse_tested.ensures ∙ search rules))
