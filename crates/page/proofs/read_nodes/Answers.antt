use Rattle.page.proofs.WholeFile.{room_of, nodes-good, nodes-bad}
use Rattle.page.proofs.read_nodes.Goals as goal

pub read_body-requires : goal.read_body-requires
read_body-requires c =
    record { short = c.requires.short; within = c.piece_start-at.ensures.within; room = room_of c.args.h.count c.args.words.now c.args.numbers.now c.requires.room }

pub returns-in-Ok : goal.returns-in-Ok
returns-in-Ok c = let a = c.args in
    nodes-good a.whole a.text.now a.h a.words.now a.numbers.now c.piece_start-at.result c.read_body.new.words c.read_body.new.numbers c.requires.blank c.piece_start-at.ensures.rest c.in-Ok.ensures

pub returns-in-Err : goal.returns-in-Err
returns-in-Err c = let a = c.args in
    nodes-bad a.whole a.text.now a.h a.words.now a.numbers.now c.piece_start-at.result c.read_body.new.words c.read_body.new.numbers c.requires.blank c.piece_start-at.ensures.rest c.in-Err.bad c.in-Err.ensures c.clear_marks.new.marks c.clear.new.rows c.clear_marks.ensures c.clear.ensures
