use mathlib.Core.Path.{refl, ◌∙◌}
use borrow.Author.Rules.{rules}
use Rattle.compute.proofs.pass_aside.Goals as goal

pub returns : goal.returns
returns c = (c.past_aside.ensures, (c.put_aside.ensures.numbers ∙ rw (c.edges_of-edges.ensures, c.line_of-line.ensures) refl, c.put_aside.ensures.words ∙ rw (c.edges_of-edges.ensures, c.line_of-line.ensures) refl))
