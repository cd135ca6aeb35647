use Rattle.print.specs.Pen.{pen}
use Rattle.print.specs.Text.{candidate_line, candidate_at}
use Rattle.print.proofs.PenLaws.{each_step, each_none}
use Rattle.print.proofs.put_candidates.Goals as goal

pub loop-i-init : goal.loop-i-init
loop-i-init c = let a = c.args in each_none (λ i. candidate_line (candidate_at a.pairs.now a.triples.now i)) (pen a.out.now a.at)

pub loop-i-preserved : goal.loop-i-preserved
loop-i-preserved c = let l = c.loop-i in
    let a = c.args in
    each_step (λ i. candidate_line (candidate_at a.pairs.now a.triples.now i)) l.i (pen a.out.now a.at) (pen l.out l.at) _ l.invariant c.put_candidate-at.ensures
