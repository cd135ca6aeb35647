use Rattle.util.specs.Maybe.{ratio_fills}
use borrow.Author.Rules.{rules}
use Rattle.util.proofs.SizeOptionF32MaybeSize.maybe_apply_aspect_ratio.Goals as goal

pub returns-in-None : goal.returns-in-None
unfolding ratio_fills
returns-in-None c = rw c.in-None.is

pub returns-in-Some : goal.returns-in-Some
unfolding ratio_fills
returns-in-Some c = rw (c.or-in-Some.ensures, c.height_from.ensures, c.or.ensures, c.width_from.ensures, c.in-Some.is)
