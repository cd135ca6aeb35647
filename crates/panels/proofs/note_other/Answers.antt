use Rattle.panels.specs.Panels.{seen}
use borrow.Author.Rules.{rules}
use Rattle.panels.proofs.note_other.Goals as goal

pub returns-in-Number : goal.returns-in-Number
unfolding seen
returns-in-Number c = rw c.in-Number.is c.note_number.ensures

pub returns-in-Word : goal.returns-in-Word
unfolding seen
returns-in-Word c = rw c.in-Word.is c.note_word.ensures

pub returns-in-Ask : goal.returns-in-Ask
unfolding seen
returns-in-Ask c = rw c.in-Ask.is

pub returns-in-Relayout : goal.returns-in-Relayout
unfolding seen
returns-in-Relayout c = rw c.in-Relayout.is

pub returns-in-Layout : goal.returns-in-Layout
unfolding seen
returns-in-Layout c = rw c.in-Layout.is
