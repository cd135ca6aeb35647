use Rattle.coarse.specs.Panel.{laid_at}
use Rattle.coarse.proofs.is_laid.Goals as goal

pub returns : goal.returns
unfolding laid_at
returns c = rw (c.flag.ensures, c.word_at.ensures)
