use mathlib.Core.Path.{sym, ◌∙◌}
use Rattle.print.specs.Pen.{pen}
use Rattle.day.specs.Day.{day, left}
use Rattle.replays.proofs.RunLaws.{ran_none, ran_one, line-none, line-one}
use Rattle.replays.proofs.run.run_line.Goals as goal

pub returns-in-None : goal.returns-in-None
returns-in-None c = let a = c.args in
    rw (line-none a.n a.l.now (sym c.event_line.ensures ∙ c.in-None.is)) (ran_none (day a.r.state a.words.now a.numbers.now a.rows.now a.marks.now a.pairs.now a.triples.now a.list.now) (pen a.out.now a.r.at))

pub returns-in-Some : goal.returns-in-Some
returns-in-Some c = let a = c.args in
    let d = day a.r.state a.words.now a.numbers.now a.rows.now a.marks.now a.pairs.now a.triples.now a.list.now in
    let t = c.step-t.new in
    let o = left c.step-t.result t.words t.numbers t.rows t.marks t.pairs t.triples t.list in
    rw (line-one a.n a.l.now c.in-Some.e (sym c.event_line.ensures ∙ c.in-Some.is)) (ran_one c.in-Some.e d o (pen a.out.now a.r.at) (pen c.put_answer-at.new.out c.put_answer-at.result) c.step-t.ensures.left_is (rw (← c.number_of.ensures, ← c.place_of.ensures) c.put_answer-at.ensures))
