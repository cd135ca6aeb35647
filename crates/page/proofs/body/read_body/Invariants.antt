use Rattle.std.proofs.Common.{◌≡◌, ◌+◌, ◌-◌, ◌≤◌, ◌<◌, length, drop}
use Rattle.text.specs.Pieces.{lines_of}
use Rattle.page.specs.Body.{tables, rest, TablesFit}
use Rattle.page.proofs.body.read_body.Given as goal

abbrev pub invariant-loop-at : goal.invariant-loop-at
invariant-loop-at l = (l.at ≤ length l.text + 1) × (l.line ≤ l.at + 6) × (5 < l.line) × (TablesFit l.n l.count l.words l.numbers) × (length l.words ≡ length l.initial.words) × (length l.numbers ≡ length l.initial.numbers) × (rest l.whole l.n 6 (tables 0 l.initial.words l.initial.numbers) (lines_of (drop l.from l.text)) ≡ rest l.whole l.n l.line (tables l.count l.words l.numbers) (lines_of (drop l.at l.text)))

abbrev pub decreases-loop-at : goal.decreases-loop-at
decreases-loop-at l = length l.text + 1 - l.at
