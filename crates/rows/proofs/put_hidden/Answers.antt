use native.Mathlib.Omega.{arith}
use mathlib.Core.Path.{refl, ap, ◌∙◌}
use lib.ListN.{length, length-set, length-replicate, set}
use mathlib.Core.List.{List}
use lib.Ieee.{Float}
use Prim.Native.Nat.{ℕ}
use Rattle.rows.proofs.Bits.{aside_rows, aside_marks, hidden_rows, hidden_marks}
use Rattle.steps.specs.Row.{hidden_row}
use borrow.Author.Rules.{rules}
use Rattle.rows.proofs.put_hidden.Goals as goal

pub returns : goal.returns
returns c = record { numbers = rw c.clear.ensures (hidden_rows (length c.args.rows.now) c.args.order.0 c.requires.rows_some); words = rw c.clear_marks.ensures (hidden_marks (length c.args.marks.now) c.args.order.0 c.requires.marks_some) }
