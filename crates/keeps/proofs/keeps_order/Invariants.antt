use borrow.Author.Rules.{rules}
use native.Mathlib.Omega.{arith}
use mathlib.Core.Path.{◌≡◌, sym, ap, ◌∙◌}
use mathlib.Core.Bool.{true, false, not}
use Prim.Native.Nat.{◌≤◌, ◌-◌}
use Rattle.steps.specs.Scan.{scan}
use Rattle.steps.specs.Page.{nodes_in}
use Rattle.tables.proofs.ScanLaws.{pass, here, over, start}
use Rattle.order.specs.Class.{unsteady, keeps_order}
use Rattle.keeps.proofs.keeps_order.Given as goal

-- no node up to i is at fault: what is left decides
abbrev pub invariant-loop-i : goal.invariant-loop-i
invariant-loop-i l = (l.i ≤ nodes_in l.words) × (scan (unsteady l.words l.numbers) (λ _. true) false 0 (nodes_in l.words) ≡ scan (unsteady l.words l.numbers) (λ _. true) false l.i (nodes_in l.words - l.i))
