use borrow.Author.Rules.{rules}
use native.Mathlib.Omega.{arith}
use mathlib.Core.Path.{◌≡◌, sym, ap, ◌∙◌}
use mathlib.Core.Bool.{true, false, not}
use Prim.Native.Nat.{◌≤◌, ◌-◌}
use Rattle.steps.specs.Scan.{scan}
use Rattle.tables.proofs.ScanLaws.{pass, here, over, start}
use Rattle.profile.specs.Profile.{whole_length}
use Rattle.profiles.specs.Numbers.{broken}
use Rattle.profiles.proofs.some_broken.Given as goal

-- no number up to f is broken: what is left decides
abbrev pub invariant-loop-f : goal.invariant-loop-f
invariant-loop-f l = (l.f ≤ 28) × (scan (broken l.u l.v l.numbers l.i) (λ _. true) false 0 28 ≡ scan (broken l.u l.v l.numbers l.i) (λ _. true) false l.f (28 - l.f))
