use mathlib.Core.Path.{◌≡◌}
use Rattle.std.specs.Prelude.{Result, Err, ℕ}
use Rattle.steps.specs.declared.Refusal.{Refusal}
use mathlib.Core.Path.{refl}
use native.Mathlib.Omega.{arith}
use Rattle.layout.proofs.PublicCalls.{layout_refused, layout_done, layout_cells}
use borrow.Author.Rules.{rules}
use Rattle.layout.proofs.lay_afresh.Goals as goal

pub relay-requires : goal.relay-requires
relay-requires c = layout_cells c.args.words.now c.args.numbers.now c.args.rows.now c.args.marks.now c.args.pairs.now c.args.triples.now c.args.q _ _ _ _ c.layout_tested.ensures c.in_ok-layout_tested.was c.clear.ensures c.clear_marks.ensures refl

pub returns-in_err-layout_tested : goal.returns-in_err-layout_tested
returns-in_err-layout_tested c =
    let no : ◌≡◌ {A = Result ℕ Refusal} c.from_residual.result (Err c.in_err-layout_tested.field-0.0) = search rules in
    rw no (layout_refused c.args.words.now c.args.numbers.now c.args.rows.now c.args.marks.now c.args.pairs.now c.args.triples.now c.args.q _ _ c.layout_tested.ensures (search rules))

pub returns : goal.returns
returns c = layout_done c.args.words.now c.args.numbers.now c.args.rows.now c.args.marks.now c.args.pairs.now c.args.triples.now c.args.q _ _ _ _ _ _ _ _ _ c.layout_tested.ensures c.in_ok-layout_tested.was c.clear.ensures c.clear_marks.ensures refl c.relay.ensures
