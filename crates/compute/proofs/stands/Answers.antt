use borrow.Author.Rules.{rules}
use Rattle.compute.proofs.stands.Goals as goal

pub returns-then-any_edit : goal.returns-then-any_edit
returns-then-any_edit c = λ r z y er em. rw (← c.any_edit.ensures, c.if-any_edit.true)

pub returns : goal.returns
returns c = λ r z y er em. rw (← c.any_edit.ensures, c.if-any_edit.false) (c.final_stands.ensures r z y er em)
