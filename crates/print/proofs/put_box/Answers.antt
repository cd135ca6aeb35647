use Rattle.print.specs.Text.{box_text}
use Rattle.print.proofs.PenLaws.{put_append}
use Rattle.print.proofs.put_box.Goals as goal

pub returns : goal.returns
unfolding box_text
returns c =
    simp put_append
    (rw (c.put.ensures, c.put_number-at-4.ensures, c.put_number-at-3.ensures, c.put_number-at-2.ensures, c.put_number-at.ensures, c.put_count-at.ensures, c.put_decimal-at.ensures, c.put_text-at.ensures))
