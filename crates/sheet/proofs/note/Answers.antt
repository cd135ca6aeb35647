use Rattle.sheet.proofs.SheetLaws.{full, room}
use borrow.Author.Rules.{rules}
use Rattle.sheet.proofs.note.Goals as goal

pub returns-then-list-count : goal.returns-then-list-count
returns-then-list-count c = let a = c.args in full a.node.0 a.list.now a.count (search rules)

pub returns : goal.returns
returns c = let a = c.args in room a.node.0 a.list.now a.count (search rules)
