-- The probe code in a row's bits: it is below 16, and written again it changes nothing.
use Rattle.std.specs.Prelude.{is_some}
use mathlib.Core.Path.{◌≡◌}
use mathlib.Core.Bool.{Bool, true, false}
use Prim.Native.Nat.{ℕ, ◌/◌, ◌%◌, ◌<◌}
use native.Mathlib.Omega.{arith}
use Rattle.length.specs.declared.AvailableSpace.{AvailableSpace}
use Rattle.length.specs.declared.AvailableSpace.TheVariants.{Definite, MinContent, MaxContent}
use Rattle.steps.specs.Row.{bit, available_kind, probe_code, with_code}
use Rattle.steps.specs.declared.ProbeInput.{ProbeInput}

pub kind_small : (a : AvailableSpace) → available_kind a < 4
unfolding available_kind
kind_small (Definite x) = omega arith
kind_small MinContent = omega arith
kind_small MaxContent = omega arith

bit_small : (b : Bool) → bit b < 2
bit_small true = omega arith
bit_small false = omega arith

pub code_small : (q : ProbeInput) → probe_code q < 16
unfolding probe_code
code_small q =
    let a = kind_small q.available in
    let b = bit_small (is_some q.height) in
    omega arith

pub same_code : (b : ℕ) → with_code b (b / 16 % 16) ≡ b
unfolding with_code
same_code b =
    let x : b / 256 ≡ b / 16 / 16 = omega arith in
    omega arith
