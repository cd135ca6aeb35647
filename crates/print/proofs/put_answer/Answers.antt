use Rattle.print.specs.Text.{answer_text}
use Rattle.print.proofs.PenLaws.{put_append}
use Rattle.print.proofs.put_answer.Goals as goal

pub returns : goal.returns
unfolding answer_text
returns c = simp put_append (rw (c.put.ensures, c.put_count-at.ensures, c.put_decimal-at.ensures, c.put_text-at.ensures))
