use Rattle.steps.specs.Row.{output_in}
use borrow.Author.Rules.{rules}
use Rattle.rows.proofs.output_in.Goals as goal

pub returns : goal.returns
unfolding output_in
returns c = λ r z y er em. rw (c.given.ensures, c.flag-2.ensures, c.flag.ensures) (rw (er, em))
