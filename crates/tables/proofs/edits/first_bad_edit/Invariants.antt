use Rattle.std.specs.Prelude.{None, Some}
use borrow.Author.Rules.{rules}
use borrow.Author.Tests.{lt-ltb, le-ltb}
use native.Mathlib.Omega.{arith}
use mathlib.Core.Path.{◌≡◌, sym, ◌∙◌, ap}
use Prim.Native.Nat.{◌≤◌, ◌-◌, min}
use lib.ListN.{length}
use Rattle.steps.specs.Scan.{scan, first_of}
use Rattle.steps.specs.Noes.{bad_edit}
use Rattle.scans.specs.Scans.{pass, here, over, start}
use Rattle.tables.proofs.edits.first_bad_edit.Given as goal

abbrev pub invariant-loop-k : goal.invariant-loop-k
invariant-loop-k l = (l.most ≡ min 64 (length l.edits)) × (l.k ≤ l.most) × (scan (bad_edit l.edits l.n) Some None 0 l.most ≡ scan (bad_edit l.edits l.n) Some None l.k (l.most - l.k))
