use mathlib.Core.Path.{◌≡◌}
use Rattle.std.specs.Prelude.{Result, Err, ℕ}
use Rattle.steps.specs.declared.Refusal.{Refusal}
use mathlib.Core.Path.{refl}
use native.Mathlib.Omega.{arith}
use Rattle.layout.proofs.PublicCalls.{relayout_refused, relayout_done, relayout_cells}
use borrow.Author.Rules.{rules}
use Rattle.layout.proofs.lay_again.Goals as goal

pub relay-requires : goal.relay-requires
relay-requires c = relayout_cells c.args.words.now c.args.numbers.now c.args.rows.now c.args.marks.now c.args.pairs.now c.args.triples.now c.args.edits.now c.args.q _ c.relayout_tested.ensures c.in_ok-relayout_tested.was

pub returns-in_err-relayout_tested : goal.returns-in_err-relayout_tested
returns-in_err-relayout_tested c =
    let no : ◌≡◌ {A = Result ℕ Refusal} c.from_residual.result (Err c.in_err-relayout_tested.field-0.0) = search rules in
    rw no (relayout_refused c.args.words.now c.args.numbers.now c.args.rows.now c.args.marks.now c.args.pairs.now c.args.triples.now c.args.edits.now c.args.q _ _ c.relayout_tested.ensures (search rules))

pub returns : goal.returns
returns c = relayout_done c.args.words.now c.args.numbers.now c.args.rows.now c.args.marks.now c.args.pairs.now c.args.triples.now c.args.edits.now c.args.q _ _ _ _ _ _ c.relayout_tested.ensures c.in_ok-relayout_tested.was c.relay.ensures
