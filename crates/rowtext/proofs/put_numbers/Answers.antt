use Rattle.std.proofs.Common.{◌∙◌, ap, Float}
use Rattle.print.specs.Pen.{pen, put_all}
use Rattle.print.specs.Text.{number_text}
use Rattle.print.proofs.PenLaws.{each_step, each_none}
use Rattle.rowtext.specs.RowText.{row_number}
use Rattle.rowtext.proofs.put_numbers.Goals as goal

pub loop-k-init : goal.loop-k-init
loop-k-init c = let a = c.args in each_none (row_number a.rows.now a.i) (pen a.out.now a.at)

pub loop-k-preserved : goal.loop-k-preserved
unfolding row_number
loop-k-preserved c = let l = c.loop-k in
    let a = c.args in
    each_step (row_number a.rows.now a.i) l.k (pen a.out.now a.at) (pen l.out l.at) _ l.invariant (c.put_number-at.ensures ∙ ap (λ (x : Float). put_all (number_text x) (pen l.out l.at)) c.number_at.ensures)
