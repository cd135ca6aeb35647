use Rattle.std.proofs.Common.{◌≡◌}
use Rattle.print.specs.Pen.{pen, put_all}
use Rattle.print.specs.Text.{each}
use Rattle.rowtext.specs.RowText.{row_number}
use Rattle.rowtext.proofs.put_numbers.Given as goal

abbrev pub invariant-loop-k : goal.invariant-loop-k
invariant-loop-k l = pen l.out l.at ≡ put_all (each (row_number l.rows l.i) l.k) (pen l.initial.out l.initial.at)
