use Rattle.std.proofs.Common.{◌≡◌}
use Rattle.print.specs.Pen.{pen, put_all}
use Rattle.print.specs.Text.{each, candidate_line, candidate_at}
use Rattle.print.proofs.put_candidates.Given as goal

abbrev pub invariant-loop-i : goal.invariant-loop-i
invariant-loop-i l = pen l.out l.at ≡ put_all (each (λ i. candidate_line (candidate_at l.pairs l.triples i)) l.i) (pen l.initial.out l.initial.at)
