use Rattle.std.proofs.Common.{◌≡◌, ℕ, List, take, IsTrue}
use Rattle.std.specs.Io.KnownBytes.{Appends}
use Rattle.console.specs.Lines.{blanks_and_words, Worded}
use Rattle.console.proofs.print_line.Given as goal

abbrev pub invariant-loop-number : goal.invariant-loop-number
invariant-loop-number g l = IsTrue l.written → (ws : List ℕ) × Worded (λ x w. g.F.Fn.post l.word (x, tt) w) (take l.number-index l.numbers) ws × Appends (g.W.Write.contents l.initial.to) (g.W.Write.contents l.to) (blanks_and_words ws)
