use mathlib.Core.Path.{◌≡◌, refl, sym, ◌∙◌, ap}
use Rattle.sheet.specs.Sheet.{Sheet}
use Rattle.day.specs.Day.{day, event_result, edit_event}
use Rattle.day.proofs.EventLaws.{told}
use borrow.Author.Rules.{rules}
use Rattle.day.proofs.ask_anew.Reads as ask-anew-reads
use Rattle.day.proofs.done.Reads as done-reads
use Rattle.sheet.proofs.edit_number.Reads as edit-number-reads
use Rattle.sheet.proofs.edit_word.Reads as edit-word-reads
use Rattle.day.proofs.lay.Reads as lay-reads
use Rattle.day.proofs.relay.Reads as relay-reads
use Rattle.day.proofs.step.Goals as goal

pub returns-in-Number : goal.returns-in-Number
unfolding event_result edit_event
returns-in-Number c = told (rw (c.in-Number.is, c.done.ensures) (let a = c.args in ap (λ (p : Sheet). edit_event p a.s.question (day a.s a.words.now a.numbers.now a.rows.now a.marks.now a.pairs.now a.triples.now a.list.now)) c.edit_number-count.ensures))

pub returns-in-Word : goal.returns-in-Word
unfolding event_result edit_event
returns-in-Word c = told (rw (c.in-Word.is, c.done-in-Word.ensures) (let a = c.args in ap (λ (p : Sheet). edit_event p a.s.question (day a.s a.words.now a.numbers.now a.rows.now a.marks.now a.pairs.now a.triples.now a.list.now)) (c.edit_word-count.ensures a.numbers.now)))

pub returns-in-Ask : goal.returns-in-Ask
unfolding event_result edit_event
returns-in-Ask c = told (rw (c.in-Ask.is, c.done-in-Ask.ensures, c.ask_anew.ensures))

pub returns-in-Relayout : goal.returns-in-Relayout
unfolding event_result
returns-in-Relayout c = told (rw c.in-Relayout.is c.relay.ensures)

pub returns-in-Layout : goal.returns-in-Layout
unfolding event_result
returns-in-Layout c = told (rw c.in-Layout.is (c.lay.ensures c.args.list.now))
