use Rattle.std.proofs.Common.{ℕ, List, length, IsTrue}
use Rattle.std.specs.Io.KnownBytes.{Appends}
use Rattle.console.specs.Files.{Said}
use Rattle.console.proofs.Files.{SoFar}
use Rattle.console.proofs.answer_files.Given as goal

abbrev pub invariant-loop-rest : goal.invariant-loop-rest
invariant-loop-rest g l = IsTrue l.written → (k : ℕ) × (w : List ℕ) × SoFar (Said (λ f r n r'. g.F.Fn.post l.answer (f, (r, tt)) (n, (r', tt)))) l.initial.room l.text l.room l.rest k w × Appends (g.W.Write.contents l.initial.to) (g.W.Write.contents l.to) w

abbrev pub decreases-loop-rest : goal.decreases-loop-rest
decreases-loop-rest g l = length l.rest
