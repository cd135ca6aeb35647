use mathlib.Core.Path.{◌≡◌}
use Prim.Native.Nat.{◌+◌, ◌-◌}
use lib.ListN.{length, drop}
use Rattle.text.specs.Pieces.{lines_of}
use Rattle.print.specs.Pen.{Pen, pen}
use Rattle.trace.specs.Event.{events_of}
use Rattle.day.specs.Day.{Day, day}
use Rattle.replays.specs.Output.{RunOf}
use Rattle.replays.proofs.run.run.Given as goal

abbrev pub invariant-loop-i : goal.invariant-loop-i
invariant-loop-i l = (length l.words ≡ length l.initial.words) × (length l.numbers ≡ length l.initial.numbers) × (length l.rows ≡ length l.initial.rows) × (length l.marks ≡ length l.initial.marks) × (length l.pairs ≡ length l.initial.pairs) × (length l.triples ≡ length l.initial.triples) × (length l.list ≡ length l.initial.list) × (length l.out ≡ length l.initial.out) × ((d' : Day) (p' : Pen) → RunOf (events_of l.n (lines_of (drop l.i l.text))) (day l.r.state l.words l.numbers l.rows l.marks l.pairs l.triples l.list) (pen l.out l.r.at) d' p' → RunOf (events_of l.n (lines_of (drop l.from l.text))) (day l.initial.r.state l.initial.words l.initial.numbers l.initial.rows l.initial.marks l.initial.pairs l.initial.triples l.initial.list) (pen l.initial.out l.initial.r.at) d' p')

abbrev pub decreases-loop-i : goal.decreases-loop-i
decreases-loop-i l = length l.text + 1 - l.i
