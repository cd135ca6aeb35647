use native.Mathlib.Omega.{arith}
use Rattle.steps.specs.Row.{available_kind}
use borrow.Author.Rules.{rules}
use Rattle.rows.proofs.available_kind.Goals as goal

pub returns-in-Definite : goal.returns-in-Definite
unfolding available_kind
returns-in-Definite c = record { is = rw c.in-Definite.is; small = omega arith }

pub returns-in-MinContent : goal.returns-in-MinContent
unfolding available_kind
returns-in-MinContent c = record { is = rw c.in-MinContent.is; small = omega arith }

pub returns-in-MaxContent : goal.returns-in-MaxContent
unfolding available_kind
returns-in-MaxContent c = record { is = rw c.in-MaxContent.is; small = omega arith }
