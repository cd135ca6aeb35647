use Rattle.steps.specs.Noes.{bad_align}
use borrow.Author.Rules.{rules}
use Rattle.codes.proofs.bad_align.Goals as goal

pub returns-then-not-clear_from : goal.returns-then-not-clear_from
unfolding bad_align
returns-then-not-clear_from c = rw (← c.clear_from.ensures, c.if-not-clear_from.true)

pub returns-then-bad_baseline : goal.returns-then-bad_baseline
unfolding bad_align
returns-then-bad_baseline c = rw (← c.clear_from.ensures, ← c.bad_baseline.ensures, c.if-not-clear_from.false, c.if-bad_baseline.true)

pub returns-then-bad_word : goal.returns-then-bad_word
unfolding bad_align
returns-then-bad_word c = rw (← c.clear_from.ensures, ← c.bad_baseline.ensures, ← c.bad_word.ensures, c.if-not-clear_from.false, c.if-bad_baseline.false, c.if-bad_word.true)

pub returns : goal.returns
unfolding bad_align
returns c = rw (c.bad_safety.ensures, ← c.clear_from.ensures, ← c.bad_baseline.ensures, ← c.bad_word.ensures, c.if-not-clear_from.false, c.if-bad_baseline.false, c.if-bad_word.false)
