use mathlib.Core.Path.{ap}
use Rattle.steps.specs.declared.Finished.{Finished}
use borrow.Author.Rules.{rules}
use Rattle.measure.proofs.finish.Goals as goal

pub returns : goal.returns
returns c = λ f k h. ap (λ (d : Finished). d.output) (c.finish_at-finished.ensures f k h)
