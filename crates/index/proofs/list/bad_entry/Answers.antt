use borrow.Author.Tests.{lt-ltb, le-ltb, eq-eqb, ne_eqb}
use Rattle.index.specs.Entries.{no_laid_leaf, bad_entry}
use native.Mathlib.Omega.{arith}
use borrow.Author.Rules.{rules}
use Rattle.index.proofs.list.bad_entry.Goals as goal

pub overflow_cast-i : goal.overflow_cast-i
overflow_cast-i c = omega (arith, c.shared_slice_known-4-1.given c.args.k)

pub returns-then-not_above : goal.returns-then-not_above
unfolding bad_entry no_laid_leaf
returns-then-not_above c = rw (← c.not_above.ensures, c.if-not_above.true)

pub returns-then-words-i : goal.returns-then-words-i
unfolding bad_entry no_laid_leaf
returns-then-words-i c = rw (← c.not_above.ensures, c.if-not_above.false, le-ltb _ _ c.if-words-i.true)

pub returns-then-code-ne1 : goal.returns-then-code-ne1
unfolding bad_entry no_laid_leaf
returns-then-code-ne1 c = rw (← c.not_above.ensures, c.if-not_above.false, lt-ltb _ _ c.if-words-i.false, ← c.word.ensures, ← c.code.ensures, ne_eqb _ _ c.if-code-ne1.true)

pub returns : goal.returns
unfolding bad_entry no_laid_leaf
returns c = rw (← c.not_above.ensures, c.if-not_above.false, lt-ltb _ _ c.if-words-i.false, ← c.word.ensures, ← c.code.ensures, eq-eqb _ _ c.if-code-ne1.false, ← c.bits_at.ensures, ← c.flag.ensures)
