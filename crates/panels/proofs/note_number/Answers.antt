use mathlib.Core.Path.{ap}
use Rattle.sheet.specs.Sheet.{Sheet}
use Rattle.sheet.proofs.SheetLaws.{number-no-node, number-no-field, number-edited}
use Rattle.panels.specs.Panels.{listed}
use borrow.Author.Rules.{rules}
use Rattle.panels.proofs.note_number.Goals as goal

pub returns-then-n-node : goal.returns-then-n-node
returns-then-n-node c = let a = c.args in ap (λ (s : Sheet). listed s) (number-no-node a.x a.words.now a.numbers.now a.list.now a.count (search rules))

pub returns-then-numbers-n : goal.returns-then-numbers-n
returns-then-numbers-n c = let a = c.args in ap (λ (s : Sheet). listed s) (number-no-field a.x a.words.now a.numbers.now a.list.now a.count (search rules) (search rules))

pub returns : goal.returns
returns c = let a = c.args in ap (λ (s : Sheet). listed s) (number-edited a.x a.words.now a.numbers.now a.list.now a.count _ _ (search rules) (search rules) c.note.ensures)
