use Rattle.std.proofs.Common.{◌≡◌, ◌+◌, ◌-◌, ◌≤◌, length, drop}
use Rattle.text.specs.Pieces.{lines_of}
use Rattle.trace.specs.File.{bad_event}
use Rattle.trace.proofs.check.check_lines.Given as goal

abbrev pub invariant-loop-at : goal.invariant-loop-at
invariant-loop-at l = (l.line + l.from ≤ l.first + l.at) × (l.first ≤ l.line) × (bad_event l.whole l.n l.count l.first (lines_of (drop l.from l.text)) ≡ bad_event l.whole l.n l.left l.line (lines_of (drop l.at l.text)))

abbrev pub decreases-loop-at : goal.decreases-loop-at
decreases-loop-at l = length l.text + 1 - l.at
