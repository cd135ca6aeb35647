use mathlib.Core.Path.{sym, subst}
use Prim.Native.Nat.{ℕ, ◌≤◌}
use lib.ListN.{length}
use Rattle.steps.specs.Question.{root_input}
use Rattle.records.proofs.Finish.{relayout-holds, relayout-records-done}
use Rattle.records.proofs.relayout_records.Goals as goal

-- no more records than are lent
pub store_records-requires : goal.store_records-requires
store_records-requires c =
    subst (λ (m : ℕ). m ≤ length c.args.records.now) (sym c.count_of.ensures) (relayout-holds c.args.words.now c.args.numbers.now c.args.rows.now c.args.marks.now c.args.pairs.now c.args.triples.now c.args.records.now c.args.edits.now (root_input c.args.q) c.relayout_within-a.result c.relayout_within-a.new.rows c.relayout_within-a.new.marks c.relayout_within-a.new.pairs c.relayout_within-a.new.triples c.relayout_within-a.ensures).fit

pub returns : goal.returns
returns c =
    relayout-records-done c.args.words.now c.args.numbers.now c.args.rows.now c.args.marks.now c.args.pairs.now c.args.triples.now c.args.records.now c.args.edits.now (root_input c.args.q) c.relayout_within-a.result c.relayout_within-a.new.rows c.relayout_within-a.new.marks c.relayout_within-a.new.pairs c.relayout_within-a.new.triples c.count_of.result c.store_records.new.out c.relayout_within-a.ensures c.count_of.ensures c.store_records.ensures
