use native.Mathlib.Omega.{arith}
use mathlib.Core.Path.{◌∙◌, ap}
use mathlib.Core.List.{List}
use Prim.Native.Nat.{ℕ}
use lib.ListN.{take, drop, length-take}
use Rattle.print.specs.Pen.{pen, put_all}
use Rattle.page.proofs.WholeFile.{cut}
use Rattle.trace.specs.Event.{events_of}
use Rattle.trace.specs.File.{event_part, trace_events}
use Rattle.replays.specs.Output.{day_text, start_of}
use Rattle.replays.proofs.replay_part.Goals as goal

pub slice_bounds-replay_text-end : goal.slice_bounds-replay_text-end
slice_bounds-replay_text-end c = rw (length-take c.min-end.result c.args.text.now) (omega (arith, c.min-end.ensures))

pub replay_text-requires : goal.replay_text-requires
replay_text-requires c = record { short = rw (length-take c.min-end.result c.args.text.now) (omega (arith, c.min-end.ensures)); fits = c.requires }

pub returns : goal.returns
unfolding trace_events
returns c = let a = c.args in
    let n = a.h.count in
    c.replay_text.ensures ∙ ap (λ (l : List ℕ). put_all (day_text n (events_of n (drop 1 (event_part l))) (start_of a.h a.words.now a.numbers.now)) (pen a.out.now 0)) (ap (λ (k : ℕ). take k a.text.now) c.min-end.ensures ∙ cut 524287 a.text.now)
