use mathlib.Core.Path.{ap}
use Rattle.steps.specs.Results.{size_paper}
use borrow.Author.Rules.{rules}
use Rattle.measure.proofs.size_question.Goals as goal

pub returns : goal.returns
returns c = let e = c.size_or_no.ensures in
    rw (← c.root_input.ensures) (record { answer_is = e; paper_is = ap size_paper e })
