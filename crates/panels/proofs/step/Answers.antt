use Rattle.day.specs.Day.{day}
use Rattle.panels.proofs.StepLaws.{stepped}
use borrow.Author.Rules.{rules}
use Rattle.panels.proofs.step.Goals as goal

pub returns : goal.returns
returns c = let a = c.args in stepped a.e (day a.s a.words.now a.numbers.now a.rows.now a.marks.now a.pairs.now a.triples.now a.list.now) a.others.now a.other c.step-t.result _ _ _ _ _ _ _ _ _ c.step-t.ensures c.note_other-count.ensures
