use Rattle.print.proofs.PenLaws.{put_append}
use Rattle.rowtext.specs.RowText.{row_line}
use Rattle.rowtext.proofs.put_row.Goals as goal

pub returns : goal.returns
unfolding row_line
returns c = simp put_append (rw (c.put.ensures, c.put_numbers-at.ensures, c.put_bits-at.ensures, c.put_count-at.ensures, c.put_decimal-at.ensures, c.put_text-at.ensures, c.word_at.ensures, c.word_at-bits.ensures))
