use Rattle.style.specs.Style.{word_at}
use Prim.Native.Nat.{◌+◌, ◌*◌}
use native.Mathlib.Omega.{arith}
use Rattle.lent.proofs.Reading.{get_d_past}
use borrow.Author.Rules.{rules}
use Rattle.style.proofs.word.Goals as goal

pub returns-then-at-words : goal.returns-then-at-words
unfolding word_at
returns-then-at-words c = search rules

pub returns-else-at-words : goal.returns-else-at-words
unfolding word_at
returns-else-at-words c = let a = c.args in
    get_d_past a.words.now (a.i * 4 + a.k) _ (omega arith)

pub returns-else-i-words : goal.returns-else-i-words
unfolding word_at
returns-else-i-words c = let a = c.args in
    get_d_past a.words.now (a.i * 4 + a.k) _ (omega arith)
