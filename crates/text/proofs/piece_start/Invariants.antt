use Rattle.std.proofs.Common.{◌≡◌, ◌≤◌, length, drop}
use Rattle.text.specs.Pieces.{past}
use Rattle.text.proofs.piece_start.Given as goal

abbrev pub invariant-loop : goal.invariant-loop
invariant-loop l = (l.at ≤ length l.s) × (drop l.at l.s ≡ past l.sep l.counter l.s)
