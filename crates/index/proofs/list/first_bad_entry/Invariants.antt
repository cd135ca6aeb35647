use Rattle.std.specs.Prelude.{None, Some}
use borrow.Author.Rules.{rules}
use native.Mathlib.Omega.{arith}
use mathlib.Core.Path.{◌≡◌, sym, ◌∙◌, ap}
use Prim.Native.Nat.{◌≤◌, ◌-◌, min}
use lib.ListN.{length}
use Rattle.steps.specs.Scan.{scan, first_of}
use Rattle.tables.proofs.ScanLaws.{pass, here, over, start}
use Rattle.index.specs.Entries.{bad_entry}
use Rattle.index.proofs.list.first_bad_entry.Given as goal

abbrev pub invariant-loop-k : goal.invariant-loop-k
invariant-loop-k l = (l.most ≡ min 256 (length l.list)) × (l.k ≤ l.most) × (scan (bad_entry l.words l.marks l.list) Some None 0 l.most ≡ scan (bad_entry l.words l.marks l.list) Some None l.k (l.most - l.k))
