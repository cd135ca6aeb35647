use borrow.Author.Rules.{rules}
use Rattle.layout.proofs.relayout.Goals as goal

pub returns : goal.returns
returns c = rw (← c.root_input.ensures) c.lay_again.ensures
