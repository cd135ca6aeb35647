use Rattle.steps.specs.Noes.{no7}
use borrow.Author.Rules.{rules}
use Rattle.tables.proofs.root_tested.Goals as goal

pub returns-then-flag : goal.returns-then-flag
unfolding no7
returns-then-flag c = rw (← c.word_at.ensures, ← c.flag.ensures, c.if-flag.true)

pub returns : goal.returns
unfolding no7
returns c = rw (← c.word_at.ensures, ← c.flag.ensures, c.if-flag.false)
