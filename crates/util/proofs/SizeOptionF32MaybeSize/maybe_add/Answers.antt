use Rattle.util.specs.Maybe.{add_size}
use borrow.Author.Rules.{rules}
use Rattle.util.proofs.SizeOptionF32MaybeSize.maybe_add.Goals as goal

pub returns : goal.returns
unfolding add_size
returns c = rw (c.maybe_add-2.ensures, c.maybe_add.ensures)
