use Rattle.std.proofs.Common.{[], ◌∷◌}
use Rattle.print.specs.Pen.{pen}
use Rattle.print.specs.Text.{hex_text}
use Rattle.print.proofs.PenLaws.{then}
use Rattle.rowtext.specs.RowText.{bits_text}
use Rattle.rowtext.proofs.put_bits.Goals as goal

pub returns : goal.returns
unfolding bits_text
returns c = then (44 ∷ []) (hex_text 8 c.args.w) (pen c.args.out.now c.args.at) _ _ c.put-at.ensures c.put_hex.ensures
