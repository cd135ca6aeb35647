use native.Mathlib.Omega.{arith}
use lib.Dec.{leb}
use borrow.Author.Tests.{lt-ltb, le-ltb, le-leb, lt-leb}
use Rattle.limits.specs.Bools.{and_false}
use Rattle.steps.specs.Noes.{signed}
use Rattle.numbers.proofs.signed.Goals as goal

pub returns-then-f-lt-MARGIN : goal.returns-then-f-lt-MARGIN
unfolding signed
returns-then-f-lt-MARGIN c = let low = c.if-f-lt-MARGIN.true in
    rw (lt-leb 6 c.args.f low, lt-leb 18 c.args.f (omega arith))

pub returns-then-f-lt-PADDING : goal.returns-then-f-lt-PADDING
unfolding signed
returns-then-f-lt-PADDING c = rw (le-leb 6 _ c.if-f-lt-MARGIN.false, lt-ltb _ 10 c.if-f-lt-PADDING.true)

pub returns-then-f-lt-INSET : goal.returns-then-f-lt-INSET
unfolding signed
returns-then-f-lt-INSET c = rw (le-ltb _ 10 c.if-f-lt-PADDING.false, lt-leb 18 _ c.if-f-lt-INSET.true, and_false (leb 6 _))

pub returns : goal.returns
unfolding signed
returns c = rw (le-ltb _ 10 c.if-f-lt-PADDING.false, le-leb 18 _ c.if-f-lt-INSET.false, and_false (leb 6 _))
