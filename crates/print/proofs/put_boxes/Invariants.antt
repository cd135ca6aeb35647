use Rattle.std.proofs.Common.{◌≡◌}
use Rattle.print.specs.Pen.{pen, put_all}
use Rattle.print.specs.Text.{each, box_at}
use Rattle.print.proofs.put_boxes.Given as goal

abbrev pub invariant-loop-i : goal.invariant-loop-i
invariant-loop-i l = pen l.out l.at ≡ put_all (each (box_at l.rows l.marks) l.i) (pen l.initial.out l.initial.at)
