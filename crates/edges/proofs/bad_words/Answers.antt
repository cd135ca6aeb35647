use borrow.Author.Tests.{lt-ltb, le-ltb, eq-eqb, ne_eqb}
use Rattle.edges.specs.Tests.{bad_words}
use Rattle.edges.proofs.bad_words.Goals as goal

pub returns-then-n-eq0 : goal.returns-then-n-eq0
unfolding bad_words
returns-then-n-eq0 c = rw (eq-eqb _ _ c.if-n-eq0.true)

pub returns-then-n-gt-MAX_NODES : goal.returns-then-n-gt-MAX_NODES
unfolding bad_words
returns-then-n-gt-MAX_NODES c = rw (lt-ltb _ _ c.if-n-gt-MAX_NODES.true, ne_eqb _ _ c.if-n-eq0.false)

pub returns : goal.returns
unfolding bad_words
returns c = rw (le-ltb _ _ c.if-n-gt-MAX_NODES.false, ne_eqb _ _ c.if-n-eq0.false)
