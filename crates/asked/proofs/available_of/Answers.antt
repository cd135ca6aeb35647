use Rattle.style.proofs.Masks.{pick4_rest}
use Rattle.asked.specs.Question.{available_of}
use Rattle.asked.proofs.available_of.Goals as goal

pub returns-in-0 : goal.returns-in-0
unfolding available_of
returns-in-0 c = rw c.in-0.is

pub returns-in-1 : goal.returns-in-1
unfolding available_of
returns-in-1 c = rw c.in-1.is

pub returns-in-2 : goal.returns-in-2
unfolding available_of
returns-in-2 c = rw c.in-2.is

pub returns-in_default : goal.returns-in_default
unfolding available_of
returns-in_default c = pick4_rest _ _ _ _ _ c.in_default.in_default-own.rest.0.0.1 c.in_default.in_default-own.rest.0.1 c.in_default.in_default-own.rest.1
