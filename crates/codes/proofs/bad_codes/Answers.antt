use borrow.Author.Tests.{eq-eqb, ne_eqb}
use Rattle.steps.specs.Noes.{bad_codes}
use native.Mathlib.Omega.{arith}
use borrow.Author.Rules.{rules}
use Rattle.codes.proofs.bad_codes.Goals as goal

pub word_in-w-requires : goal.word_in-w-requires
word_in-w-requires c = let p = c.requires in omega arith

pub word_in-u-requires : goal.word_in-u-requires
word_in-u-requires c = let p = c.requires in omega arith

pub word_in-v-requires : goal.word_in-v-requires
word_in-v-requires c = let p = c.requires in omega arith

pub returns-then-code-eq3 : goal.returns-then-code-eq3
unfolding bad_codes
returns-then-code-eq3 c = rw (← c.word_in-w.ensures, ← c.word_in-u.ensures, ← c.word_in-v.ensures, ← c.code.ensures, eq-eqb _ _ c.if-code-eq3.true)

pub returns-then-code-eq3-2 : goal.returns-then-code-eq3-2
unfolding bad_codes
returns-then-code-eq3-2 c = rw (← c.word_in-w.ensures, ← c.word_in-u.ensures, ← c.word_in-v.ensures, ← c.code.ensures, ← c.code-2.ensures, eq-eqb _ _ c.if-code-eq3-2.true, ne_eqb _ _ c.if-code-eq3.false)

pub returns-then-bad_align : goal.returns-then-bad_align
unfolding bad_codes
returns-then-bad_align c = rw (← c.word_in-w.ensures, ← c.word_in-u.ensures, ← c.word_in-v.ensures, ← c.code.ensures, ← c.code-2.ensures, ← c.bad_align.ensures, c.if-bad_align.true, ne_eqb _ _ c.if-code-eq3-2.false, ne_eqb _ _ c.if-code-eq3.false)

pub returns-then-not-clear_from : goal.returns-then-not-clear_from
unfolding bad_codes
returns-then-not-clear_from c = rw (← c.word_in-w.ensures, ← c.word_in-u.ensures, ← c.word_in-v.ensures, ← c.code.ensures, ← c.code-2.ensures, ← c.bad_align.ensures, ← c.clear_from.ensures, c.if-not-clear_from.true, c.if-bad_align.false, ne_eqb _ _ c.if-code-eq3-2.false, ne_eqb _ _ c.if-code-eq3.false)

pub returns-then-not-clear_from-2 : goal.returns-then-not-clear_from-2
unfolding bad_codes
returns-then-not-clear_from-2 c = rw (← c.word_in-w.ensures, ← c.word_in-u.ensures, ← c.word_in-v.ensures, ← c.code.ensures, ← c.code-2.ensures, ← c.bad_align.ensures, ← c.clear_from.ensures, ← c.clear_from-2.ensures, c.if-not-clear_from-2.true, c.if-not-clear_from.false, c.if-bad_align.false, ne_eqb _ _ c.if-code-eq3-2.false, ne_eqb _ _ c.if-code-eq3.false)

pub returns-then-some_bad_unit : goal.returns-then-some_bad_unit
unfolding bad_codes
returns-then-some_bad_unit c = rw (← c.word_in-w.ensures, ← c.word_in-u.ensures, ← c.word_in-v.ensures, ← c.code.ensures, ← c.code-2.ensures, ← c.bad_align.ensures, ← c.clear_from.ensures, ← c.clear_from-2.ensures, ← c.some_bad_unit.ensures, c.if-some_bad_unit.true, c.if-not-clear_from-2.false, c.if-not-clear_from.false, c.if-bad_align.false, ne_eqb _ _ c.if-code-eq3-2.false, ne_eqb _ _ c.if-code-eq3.false)

pub returns-then-i-eq0 : goal.returns-then-i-eq0
unfolding bad_codes
returns-then-i-eq0 c = rw (c.code-then-i-eq0.ensures, ← c.word_in-w.ensures, ← c.word_in-u.ensures, ← c.word_in-v.ensures, ← c.code.ensures, ← c.code-2.ensures, ← c.bad_align.ensures, ← c.clear_from.ensures, ← c.clear_from-2.ensures, ← c.some_bad_unit.ensures, eq-eqb _ _ c.if-i-eq0.true, c.if-some_bad_unit.false, c.if-not-clear_from-2.false, c.if-not-clear_from.false, c.if-bad_align.false, ne_eqb _ _ c.if-code-eq3-2.false, ne_eqb _ _ c.if-code-eq3.false)

pub returns : goal.returns
unfolding bad_codes
returns c = rw (← c.word_in-w.ensures, ← c.word_in-u.ensures, ← c.word_in-v.ensures, ← c.code.ensures, ← c.code-2.ensures, ← c.bad_align.ensures, ← c.clear_from.ensures, ← c.clear_from-2.ensures, ← c.some_bad_unit.ensures, ne_eqb _ _ c.if-i-eq0.false, c.if-some_bad_unit.false, c.if-not-clear_from-2.false, c.if-not-clear_from.false, c.if-bad_align.false, ne_eqb _ _ c.if-code-eq3-2.false, ne_eqb _ _ c.if-code-eq3.false)
