use borrow.Author.Tests.{eq-eqb, ne_eqb, lt-ltb, le-ltb}
use native.Mathlib.Omega.{arith}
use Rattle.steps.specs.Noes.{bad_word}
use borrow.Author.Rules.{rules}
use Rattle.codes.proofs.bad_word.Goals as goal

pub returns-then-k-eq0 : goal.returns-then-k-eq0
unfolding bad_word
returns-then-k-eq0 c = rw (← c.distribution-k.ensures, eq-eqb _ _ c.if-k-eq0.true)

pub returns-then-k-gt4 : goal.returns-then-k-gt4
unfolding bad_word
returns-then-k-gt4 c = rw (← c.distribution-k.ensures, ne_eqb _ _ c.if-k-eq0.false, lt-ltb _ _ c.if-k-gt4.true)

pub returns : goal.returns
unfolding bad_word
returns c = rw (← c.distribution-k.ensures, c.code.ensures, ne_eqb _ _ c.if-k-eq0.false, le-ltb _ _ c.if-k-gt4.false)
