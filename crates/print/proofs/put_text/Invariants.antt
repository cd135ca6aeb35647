use Rattle.std.proofs.Common.{◌≡◌, drop}
use Rattle.print.specs.Pen.{pen, put_all}
use Rattle.print.proofs.put_text.Given as goal

abbrev pub invariant-loop-b : goal.invariant-loop-b
invariant-loop-b l = put_all l.s (pen l.initial.out l.initial.at) ≡ put_all (drop l.b-index l.s) (pen l.out l.at)
