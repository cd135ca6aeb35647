use native.Mathlib.Omega.{arith}
use Rattle.steps.proofs.Answers.{paper-nine}
use borrow.Author.Rules.{rules}
use Rattle.asked.proofs.packed.Goals as goal

pub halves-requires : goal.halves-requires
halves-requires c = omega (arith, paper-nine c.args.a, c.number_of.ensures)
