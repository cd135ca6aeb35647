use mathlib.Core.Path.{◌≡◌}
use Rattle.std.specs.Prelude.{Result, Err, ⊤}
use Rattle.index.specs.declared.IndexRefusal.{IndexRefusal}
use mathlib.Core.Path.{sym, ap, ◌∙◌}
use lib.ListN.{length, length-map}
use Rattle.index.specs.Loops.{bottom_by}
use Rattle.index.proofs.Making.{accepted, made, refused}
use borrow.Author.Rules.{rules}
use Rattle.index.proofs.make_index.Goals as goal

pub put_edges-requires : goal.put_edges-requires
put_edges-requires c = let a = c.args in
    let l = (accepted a.words.now a.rows.now a.marks.now a.list.now a.tops.now a.bottoms.now a.running.now (sym c.index_tested.ensures ∙ c.in_ok-index_tested.was)).long in
    record { tops = l.tops_long; bottoms = l.bottoms_long }

pub put_running-requires : goal.put_running-requires
put_running-requires c = let a = c.args in
    let l = (accepted a.words.now a.rows.now a.marks.now a.list.now a.tops.now a.bottoms.now a.running.now (sym c.index_tested.ensures ∙ c.in_ok-index_tested.was)).long in
    l.running_long ∙ sym (ap length c.put_edges.ensures.bottoms_are ∙ length-map a.list.now (bottom_by a.words.now a.rows.now))

pub returns : goal.returns
returns c = let a = c.args in
    made a.words.now a.rows.now a.marks.now a.list.now a.tops.now a.bottoms.now a.running.now (sym c.index_tested.ensures ∙ c.in_ok-index_tested.was) _ _ _ c.put_edges.ensures c.put_running.ensures

pub returns-in_err-index_tested : goal.returns-in_err-index_tested
returns-in_err-index_tested c = let a = c.args in
    let no : ◌≡◌ {A = Result ⊤ IndexRefusal} c.from_residual.result (Err c.in_err-index_tested.field-0.0) = search rules in
    rw no (refused a.words.now a.rows.now a.marks.now a.list.now a.tops.now a.bottoms.now a.running.now _ (sym c.index_tested.ensures ∙ search rules))
