use Rattle.std.proofs.Common.{◌≡◌}
use Rattle.print.specs.Pen.{pen, put_all}
use Rattle.print.specs.Text.{each}
use Rattle.rowtext.specs.RowText.{row_line}
use Rattle.rowtext.proofs.put_rows.Given as goal

abbrev pub invariant-loop-i : goal.invariant-loop-i
invariant-loop-i l = pen l.out l.at ≡ put_all (each (row_line l.rows l.marks) l.i) (pen l.initial.out l.initial.at)
