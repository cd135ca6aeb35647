use Rattle.std.proofs.Common.{sym, ◌∙◌, arith}
use Rattle.print.specs.Pen.{pen}
use Rattle.print.proofs.PenLaws.{text_step, text_end}
use Rattle.print.proofs.put_text.Goals as goal

pub loop-b-preserved : goal.loop-b-preserved
loop-b-preserved c = let l = c.loop-b in
    l.invariant ∙ text_step c.args.s.now l.b-index (pen l.out l.at) (pen c.put-at.new.out c.put-at.result) (omega arith) c.put-at.ensures

pub returns : goal.returns
returns c = let l = c.loop-b in
    sym (l.invariant ∙ text_end c.args.s.now l.b-index (pen l.out l.at) c.loop-b-test.false)
