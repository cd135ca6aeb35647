use mathlib.Core.Path.{◌≡◌, refl, sym, ◌∙◌, ap}
use Rattle.day.proofs.EventLaws.{called}
use borrow.Author.Rules.{rules}
use Rattle.day.proofs.count_after.Reads as count-after-reads
use Rattle.layout.proofs.layout.Reads as layout-reads
use Rattle.day.proofs.lay.Goals as goal

pub returns : goal.returns
returns c = λ l. let a = c.args in
    called a.s a.words.now a.numbers.now a.rows.now a.marks.now a.pairs.now a.triples.now l _ c.layout-answer.result c.count_after-count.result _ _ _ _ c.layout-answer.ensures c.count_after-count.ensures
