use Rattle.std.proofs.Common.{◌≡◌, ◌<◌, ◌≤◌, length, drop}
use Rattle.text.specs.Values.{all_digits, value_from}
use Rattle.text.proofs.digits.Given as goal

abbrev pub invariant-loop-b : goal.invariant-loop-b
invariant-loop-b l = (0 < length l.s) × (l.v ≤ l.limit) × (all_digits l.base l.s ≡ all_digits l.base (drop l.b-index l.s)) × (value_from l.base 0 l.s ≡ value_from l.base l.v (drop l.b-index l.s))
