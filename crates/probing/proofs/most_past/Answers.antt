use mathlib.Core.Path.{refl, ◌∙◌}
use borrow.Author.Rules.{rules}
use Rattle.probing.specs.Contract.{most_past}
use Rattle.probing.proofs.most_past.Goals as goal

pub returns-in-Nothing : goal.returns-in-Nothing
unfolding most_past
returns-in-Nothing c = rw c.in-Nothing.is

pub returns-in-Outer : goal.returns-in-Outer
unfolding most_past
returns-in-Outer c = c.f32_max.ensures ∙ rw c.in-Outer.is refl

pub returns-in-Probe : goal.returns-in-Probe
unfolding most_past
returns-in-Probe c = rw c.in-Probe.is
