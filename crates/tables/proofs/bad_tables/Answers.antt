use borrow.Author.Tests.{lt-ltb, le-ltb, eq-eqb, ne_eqb}
use Rattle.steps.specs.Noes.{bad_tables}
use borrow.Author.Rules.{rules}
use Rattle.tables.proofs.bad_tables.Goals as goal

pub returns-then-n-eq0 : goal.returns-then-n-eq0
unfolding bad_tables
returns-then-n-eq0 c = rw (eq-eqb _ _ c.if-n-eq0.true)

pub returns-then-n-gt-MAX_NODES : goal.returns-then-n-gt-MAX_NODES
unfolding bad_tables
returns-then-n-gt-MAX_NODES c = rw (lt-ltb _ _ c.if-n-gt-MAX_NODES.true, ne_eqb _ _ c.if-n-eq0.false)

pub returns-then-words-n : goal.returns-then-words-n
unfolding bad_tables
returns-then-words-n c = rw (ne_eqb _ _ c.if-words-n.true, le-ltb _ _ c.if-n-gt-MAX_NODES.false, ne_eqb _ _ c.if-n-eq0.false)

pub returns : goal.returns
unfolding bad_tables
returns c = rw (eq-eqb _ _ c.if-words-n.false, le-ltb _ _ c.if-n-gt-MAX_NODES.false, ne_eqb _ _ c.if-n-eq0.false)
