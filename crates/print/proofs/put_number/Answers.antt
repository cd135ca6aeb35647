use Rattle.std.proofs.Common.{[], ◌∷◌}
use Rattle.print.specs.Pen.{pen}
use Rattle.print.specs.Text.{number_text, hex_text}
use Rattle.print.proofs.PenLaws.{then}
use Rattle.print.proofs.put_number.Goals as goal

pub returns : goal.returns
unfolding number_text
returns c = rw (← c.bits_of.ensures) (then (44 ∷ []) (hex_text 8 c.bits_of.result) (pen c.args.out.now c.args.at) _ _ c.put-at.ensures c.put_hex.ensures)
