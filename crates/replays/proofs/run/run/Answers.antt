use native.Mathlib.Omega.{arith}
use mathlib.Core.Path.{refl}
use lib.ListN.{drop}
use borrow.Author.Rules.{rules}
use Rattle.text.specs.Pieces.{lines_of}
use Rattle.print.specs.Pen.{pen}
use Rattle.trace.specs.Event.{events_of}
use Rattle.day.specs.Day.{day}
use Rattle.replays.proofs.RunLaws.{turn, last_turn}
use Rattle.replays.proofs.run.run.Goals as goal

pub loop-i-init : goal.loop-i-init
loop-i-init c = (refl, refl, refl, refl, refl, refl, refl, refl, λ d' p' h. h)

pub overflow_add-i : goal.overflow_add-i
overflow_add-i c = omega (arith, c.piece_end-e.ensures.within, c.requires)

pub loop-i-preserved : goal.loop-i-preserved
loop-i-preserved c = let a = c.args in
    let l = c.loop-i in
    let t = c.run_line-r.new.r in
    (search rules, search rules, search rules, search rules, search rules, search rules, search rules, search rules, turn a.n a.text.now l.i c.piece_end-e.result (events_of a.n (lines_of (drop a.from a.text.now))) _ (day l.r.state l.words l.numbers l.rows l.marks l.pairs l.triples l.list) _ _ (pen l.out l.r.at) _ c.loop-i-test.true c.piece_end-e.ensures l.invariant.8 c.run_line-r.ensures)

pub returns : goal.returns
returns c = let a = c.args in
    let l = c.loop-i in
    last_turn a.n a.text.now l.i (events_of a.n (lines_of (drop a.from a.text.now))) _ _ _ _ (search rules) l.invariant.8
