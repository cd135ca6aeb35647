use mathlib.Core.Path.{◌≡◌, refl, sym, ap, ◌∙◌}
use Prim.Native.Nat.{ℕ, ◌+◌, ◌-◌, ◌≤◌}
use native.Mathlib.Omega.{arith}
use borrow.Author.Rules.{rules}
use lib.ListN.{length, drop}
use Rattle.rows.specs.Edited.{touched}
use Rattle.rows.proofs.Edits.{touched_here, touched_pass, touched_over}
use Rattle.rows.proofs.any_edit.Given as goal

abbrev pub invariant-loop-e : goal.invariant-loop-e
invariant-loop-e l = touched l.edits l.base l.n ≡ touched (drop l.e-index l.edits) l.base l.n
