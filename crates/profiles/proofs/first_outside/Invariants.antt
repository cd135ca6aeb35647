use Rattle.std.specs.Prelude.{None, Some}
use borrow.Author.Rules.{rules}
use native.Mathlib.Omega.{arith}
use mathlib.Core.Path.{◌≡◌, sym, ap, ◌∙◌}
use mathlib.Core.Bool.{not}
use Prim.Native.Nat.{◌≤◌, ◌-◌}
use Rattle.steps.specs.Scan.{scan}
use Rattle.steps.specs.Page.{nodes_in}
use Rattle.tables.proofs.ScanLaws.{pass, here, over, start}
use Rattle.profile.specs.Profile.{outside}
use Rattle.profiles.proofs.first_outside.Given as goal

-- no node up to i is outside: what is left decides
abbrev pub invariant-loop-i : goal.invariant-loop-i
invariant-loop-i l = (l.i ≤ nodes_in l.words) × (scan (outside l.words l.numbers) Some None 0 (nodes_in l.words) ≡ scan (outside l.words l.numbers) Some None l.i (nodes_in l.words - l.i))
