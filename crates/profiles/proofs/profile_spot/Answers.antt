use borrow.Author.Rules.{rules}
use native.Mathlib.Omega.{arith}
use Rattle.profile.specs.Profile.{else_at, profile_spot}
use Rattle.profiles.proofs.profile_spot.Goals as goal

pub returns-in-Some : goal.returns-in-Some
unfolding profile_spot else_at
returns-in-Some c = rw (← c.first_outside.ensures, c.in-Some.is)

pub returns-then-whole_question : goal.returns-then-whole_question
unfolding profile_spot else_at
returns-then-whole_question c = rw (← c.first_outside.ensures, c.in_default.is, ← c.whole_question.ensures, c.if-whole_question.true)

pub returns : goal.returns
unfolding profile_spot else_at
returns c = rw (← c.first_outside.ensures, c.in_default.is, ← c.whole_question.ensures, c.if-whole_question.false)
