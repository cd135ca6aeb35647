use Rattle.alignment.specs.Align.{align_shift}
use borrow.Author.Rules.{rules}
use Rattle.alignment.proofs.compute_block_align_content_offset.Goals as goal

pub returns-in-Normal : goal.returns-in-Normal
unfolding align_shift
returns-in-Normal c = rw c.in-Normal.is

pub returns-in-Start : goal.returns-in-Start
unfolding align_shift
returns-in-Start c = rw c.in-Start.is

pub returns-in-Center : goal.returns-in-Center
unfolding align_shift
returns-in-Center c = rw (c.room_of.ensures, c.in-Center.is)

pub returns-in-End : goal.returns-in-End
unfolding align_shift
returns-in-End c = rw (c.room_of-in-End.ensures, c.in-End.is)

pub returns-in-SpaceBetween : goal.returns-in-SpaceBetween
unfolding align_shift
returns-in-SpaceBetween c = rw c.in-SpaceBetween.is

pub returns-in-SpaceAround : goal.returns-in-SpaceAround
unfolding align_shift
returns-in-SpaceAround c = rw (c.room_of-in-SpaceAround.ensures, c.in-SpaceAround.is)

pub returns-in-SpaceEvenly : goal.returns-in-SpaceEvenly
unfolding align_shift
returns-in-SpaceEvenly c = rw (c.room_of-in-SpaceEvenly.ensures, c.in-SpaceEvenly.is)

pub returns-in-Stretch : goal.returns-in-Stretch
unfolding align_shift
returns-in-Stretch c = rw c.in-Stretch.is
