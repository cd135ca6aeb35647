use mathlib.Core.Path.{refl}
use Rattle.steps.specs.Stack.{child_input}
use borrow.Author.Rules.{rules}
use Rattle.stacking.proofs.item.child_input.Goals as goal

pub returns : goal.returns
unfolding child_input
returns c = λ xs. let r = c.args.r in rw (c.container_inner_width.ensures, c.asked_height.ensures, c.asked_width-width.ensures, c.is_in_same_bfc-plain.ensures r.first r.second xs r.node)
