use native.Mathlib.Omega.{arith}
use Rattle.sheet.proofs.SheetLaws.{word-no-node, word-zero, word-large, word-edited}
use borrow.Author.Rules.{rules}
use Rattle.sheet.proofs.note.Reads as note-reads
use Rattle.sheet.proofs.edit_word.Goals as goal

pub returns-then-n-node : goal.returns-then-n-node
returns-then-n-node c = λ xs. let a = c.args in word-no-node a.x a.words.now xs a.list.now a.count (search rules)

pub returns-then-word-eq0 : goal.returns-then-word-eq0
returns-then-word-eq0 c = λ xs. let a = c.args in word-zero a.x a.words.now xs a.list.now a.count (search rules) (search rules)

pub returns-then-word-gt3 : goal.returns-then-word-gt3
returns-then-word-gt3 c = λ xs. let a = c.args in word-large a.x a.words.now xs a.list.now a.count (search rules) (search rules) (search rules)

pub returns : goal.returns
returns c = λ xs. let a = c.args in word-edited a.x a.words.now xs a.list.now a.count c.note.new.list c.note.result (search rules) (search rules) (search rules) c.note.ensures
