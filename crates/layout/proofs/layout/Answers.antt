use borrow.Author.Rules.{rules}
use Rattle.layout.proofs.layout.Goals as goal

pub returns : goal.returns
returns c = rw (← c.root_input.ensures) c.lay_afresh.ensures
