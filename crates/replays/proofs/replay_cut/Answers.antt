use native.Mathlib.Omega.{arith}
use mathlib.Core.Path.{◌∙◌, ap}
use mathlib.Core.List.{List}
use Prim.Native.Nat.{ℕ}
use Rattle.print.specs.Pen.{pen, put_all}
use Rattle.trace.specs.Event.{events_of}
use Rattle.trace.proofs.Lines.{lines_rest}
use Rattle.day.specs.Day.{day}
use Rattle.replays.specs.Output.{day_text}
use Rattle.replays.proofs.RunLaws.{day_shown}
use Rattle.replays.proofs.replay_cut.Goals as goal

pub put_rows-requires : goal.put_rows-requires
put_rows-requires c = omega (arith, c.requires.few)

pub returns : goal.returns
returns c = let a = c.args in
    let d = day (record { question = a.question; count = 0 }) a.words.now a.numbers.now a.rows.now a.marks.now a.pairs.now a.triples.now a.list.now in
    day_shown a.n _ d _ (pen a.out.now 0) _ _ c.run-r.ensures c.put_rows.ensures ∙ ap (λ (ls : List (List ℕ)). put_all (day_text a.n (events_of a.n ls) d) (pen a.out.now 0)) (lines_rest a.lines.now c.piece_end-e.result c.piece_end-e.ensures)
