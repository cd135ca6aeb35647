use native.Mathlib.Omega.{arith}
use mathlib.Core.Path.{◌≡◌, refl, sym, ◌∙◌, ap}
use mathlib.Core.List.{List}
use Prim.Native.Nat.{ℕ}
use lib.ListN.{length, take, length-take}
use Rattle.steps.specs.Question.{root_input}
use Rattle.steps.specs.Results.{relayout_result}
use Rattle.day.specs.Day.{day, call_event}
use Rattle.day.proofs.EventLaws.{called, cut_list}
use borrow.Author.Rules.{rules}
use Rattle.day.proofs.count_after.Reads as count-after-reads
use Rattle.layout.proofs.relayout.Reads as relayout-reads
use Rattle.lent.proofs.smaller.Reads as smaller-reads
use Rattle.day.proofs.relay.Goals as goal

pub slice_bounds-relayout-end : goal.slice_bounds-relayout-end
slice_bounds-relayout-end c = simp length-take (omega (arith, c.smaller-k.ensures))

pub returns : goal.returns
returns c = let a = c.args in
    let d = day a.s a.words.now a.numbers.now a.rows.now a.marks.now a.pairs.now a.triples.now a.list.now in
    called a.s a.words.now a.numbers.now a.rows.now a.marks.now a.pairs.now a.triples.now a.list.now _ c.relayout-answer.result c.count_after-count.result _ _ _ _ c.relayout-answer.ensures c.count_after-count.ensures
    ∙ ap (λ (es : List ℕ). call_event (relayout_result a.words.now a.numbers.now a.rows.now a.marks.now a.pairs.now a.triples.now es (root_input a.s.question)) d) (ap (λ k. take k a.list.now) c.smaller-k.ensures ∙ cut_list a.s.count a.list.now)
