use Rattle.steps.specs.Noes.{bad_style}
use borrow.Author.Rules.{rules}
use Rattle.codes.proofs.bad_style.Goals as goal

pub returns-then-ratio_beside_fraction : goal.returns-then-ratio_beside_fraction
unfolding bad_style
returns-then-ratio_beside_fraction c = rw (← c.ratio_beside_fraction.ensures, c.if-ratio_beside_fraction.true)

pub returns : goal.returns
unfolding bad_style
returns c = rw (c.bad_codes.ensures, ← c.ratio_beside_fraction.ensures, c.if-ratio_beside_fraction.false)
