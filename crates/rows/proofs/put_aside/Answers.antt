use native.Mathlib.Omega.{arith}
use mathlib.Core.Path.{refl, ap, ◌∙◌}
use lib.ListN.{length, length-set, length-replicate, set}
use mathlib.Core.List.{List}
use lib.Ieee.{Float}
use Prim.Native.Nat.{ℕ}
use Rattle.rows.proofs.Bits.{aside_rows, aside_marks, hidden_rows, hidden_marks}
use Rattle.steps.specs.Row.{aside_row}
use borrow.Author.Rules.{rules}
use Rattle.rows.proofs.put_aside.Goals as goal

pub bounds-rows-1 : goal.bounds-rows-1
bounds-rows-1 c = simp length-set (omega arith)

pub bounds-rows-2 : goal.bounds-rows-2
bounds-rows-2 c = simp length-set (omega arith)

pub returns : goal.returns
returns c = record { numbers = rw c.clear.ensures (aside_rows (length c.args.rows.now) c.args.edges.start c.args.line c.args.edges.end c.args.order.0 c.requires.rows_some); words = rw c.clear_marks.ensures (aside_marks (length c.args.marks.now) c.args.edges.start c.args.line c.args.edges.end c.args.order.0 c.requires.marks_some) }
