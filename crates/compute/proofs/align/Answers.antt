use Rattle.steps.specs.Layout.{align_f}
use borrow.Author.Rules.{rules}
use Rattle.compute.proofs.align.Goals as goal

pub returns-in-None : goal.returns-in-None
unfolding align_f
returns-in-None c = λ ts h. rw c.in-None.is h.rows_are

pub returns-in-Some : goal.returns-in-Some
unfolding align_f
returns-in-Some c = λ ts h. rw c.in-Some.is (c.lower.ensures ts h)
