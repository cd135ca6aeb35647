use Rattle.std.specs.Prelude.{None}
use borrow.Author.Rules.{rules}
use native.Mathlib.Omega.{arith}
use mathlib.Core.Path.{◌≡◌, sym, ◌∙◌}
use Prim.Native.Nat.{◌≤◌, ◌-◌}
use Rattle.steps.specs.Scan.{scan, at_node}
use Rattle.scans.specs.Scans.{pass, here, over, start}
use Rattle.steps.specs.Page.{nodes_in}
use Rattle.steps.specs.Noes.{bad_numbers}
use Rattle.numbers.proofs.first_bad_numbers.Given as goal

abbrev pub invariant-loop-i : goal.invariant-loop-i
invariant-loop-i l = (l.i ≤ (nodes_in l.words)) × (scan (bad_numbers l.words l.numbers) at_node None 0 (nodes_in l.words) ≡ scan (bad_numbers l.words l.numbers) at_node None l.i ((nodes_in l.words) - l.i))
