use Rattle.style.specs.Style.{word_at}
use borrow.Author.Rules.{rules}
use Rattle.style.proofs.word_in.Goals as goal

pub returns : goal.returns
unfolding word_at
returns c = search rules
