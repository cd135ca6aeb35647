use borrow.Author.Rules.{rules}
use Rattle.frames.proofs.frame_at.Goals as goal

pub returns : goal.returns
returns c = rw (c.frame_of.ensures, c.at.ensures.style)
