use mathlib.Core.Path.{ap}
use Rattle.sheet.specs.Sheet.{Sheet}
use Rattle.sheet.proofs.SheetLaws.{word-no-node, word-zero, word-large, word-edited}
use Rattle.panels.specs.Panels.{listed}
use borrow.Author.Rules.{rules}
use Rattle.panels.proofs.note_word.Goals as goal

pub returns-then-n-node : goal.returns-then-n-node
returns-then-n-node c = let a = c.args in ap (λ (s : Sheet). listed s) (word-no-node a.x a.words.now a.numbers.now a.list.now a.count (search rules))

pub returns-then-word-eq0 : goal.returns-then-word-eq0
returns-then-word-eq0 c = let a = c.args in ap (λ (s : Sheet). listed s) (word-zero a.x a.words.now a.numbers.now a.list.now a.count (search rules) (search rules))

pub returns-then-word-gt3 : goal.returns-then-word-gt3
returns-then-word-gt3 c = let a = c.args in ap (λ (s : Sheet). listed s) (word-large a.x a.words.now a.numbers.now a.list.now a.count (search rules) (search rules) (search rules))

pub returns : goal.returns
returns c = let a = c.args in ap (λ (s : Sheet). listed s) (word-edited a.x a.words.now a.numbers.now a.list.now a.count _ _ (search rules) (search rules) (search rules) c.note.ensures)
