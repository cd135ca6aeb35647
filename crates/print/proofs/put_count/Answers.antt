use Rattle.std.proofs.Common.{[], ◌∷◌}
use Rattle.print.specs.Pen.{pen}
use Rattle.print.specs.Text.{count_text, decimal}
use Rattle.print.proofs.PenLaws.{then}
use Rattle.print.proofs.put_count.Goals as goal

pub returns : goal.returns
unfolding count_text
returns c = then (44 ∷ []) (decimal 20 c.args.n) (pen c.args.out.now c.args.at) _ _ c.put-at.ensures c.put_decimal.ensures
