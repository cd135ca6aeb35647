use mathlib.Core.Path.{sym, ◌∙◌}
use Rattle.steps.specs.Noes.{and_then}
use Rattle.edges.specs.Tests.{rows_tested, laid_tested}
use Rattle.edges.proofs.Words.{worded}
use Rattle.edges.proofs.rows_tested.Goals as goal

pub returns-then-bad_words : goal.returns-then-bad_words
unfolding rows_tested laid_tested and_then
returns-then-bad_words c = rw (← c.bad_words.ensures, c.if-bad_words.true)

pub bad_rows-requires : goal.bad_rows-requires
bad_rows-requires c = (worded _ (sym c.bad_words.ensures ∙ c.if-bad_words.false)).few

pub returns-then-bad_rows : goal.returns-then-bad_rows
unfolding rows_tested laid_tested and_then
returns-then-bad_rows c = rw (← c.bad_rows.ensures, ← c.bad_words.ensures, c.if-bad_rows.true, c.if-bad_words.false)

pub words_tested-requires : goal.words_tested-requires
words_tested-requires c = (worded _ (sym c.bad_words.ensures ∙ c.if-bad_words.false)).few

pub returns : goal.returns
unfolding rows_tested laid_tested and_then
returns c = rw (c.root_tested.ensures, ← c.words_tested.ensures, ← c.tree_tested.ensures, ← c.bad_rows.ensures, ← c.bad_words.ensures, c.in_ok-words_tested.was, c.in_ok-tree_tested.was, c.if-bad_rows.false, c.if-bad_words.false)
