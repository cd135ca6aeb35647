use mathlib.Core.Path.{◌∙◌, ap}
use mathlib.Core.List.{List}
use Prim.Native.Nat.{ℕ}
use lib.ListN.{drop}
use Rattle.text.specs.Pieces.{lines_of}
use Rattle.text.specs.Laws.{from_on}
use Rattle.print.specs.Pen.{pen, put_all}
use Rattle.trace.specs.Event.{events_of}
use Rattle.replays.specs.Output.{day_text, start_of}
use Rattle.replays.proofs.replay_text.Goals as goal

pub returns : goal.returns
returns c = let a = c.args in
    let n = a.h.count in
    c.replay_lines.ensures ∙ ap (λ (l : List ℕ). put_all (day_text n (events_of n (drop 1 (lines_of l))) (start_of a.h a.words.now a.numbers.now)) (pen a.out.now 0)) (from_on c.events_start-s.result.at a.text.now ∙ ap (λ (k : ℕ). drop k a.text.now) c.events_start-s.ensures.place)
