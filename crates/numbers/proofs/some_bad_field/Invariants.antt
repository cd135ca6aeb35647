use borrow.Author.Rules.{rules}
use native.Mathlib.Omega.{arith}
use mathlib.Core.Path.{◌≡◌, refl, sym, ◌∙◌}
use mathlib.Core.Bool.{Bool, true, false}
use Prim.Native.Nat.{ℕ, ◌≤◌, ◌-◌}
use Rattle.steps.specs.Scan.{scan}
use Rattle.scans.specs.Scans.{pass, here, over}
use Rattle.numbers.specs.Fields.{bad_field_at}
use Rattle.numbers.proofs.some_bad_field.Given as goal

abbrev pub yes : ℕ → Bool
yes _ = true

abbrev pub invariant-loop-f : goal.invariant-loop-f
invariant-loop-f l = (l.from ≤ l.f) × (l.f ≤ l.to) × (scan (bad_field_at l.u l.v l.numbers l.i) yes false l.from (l.to - l.from) ≡ scan (bad_field_at l.u l.v l.numbers l.i) yes false l.f (l.to - l.f))
