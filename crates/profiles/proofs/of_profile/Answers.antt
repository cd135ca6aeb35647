use borrow.Author.Rules.{rules}
use mathlib.Core.Path.{◌∙◌}
use Rattle.profiles.specs.Numbers.{by_numbers}
use Rattle.profiles.proofs.of_profile.Goals as goal

pub returns : goal.returns
returns c = let a = c.args in
    c.in_numbers.ensures ∙ rw (c.word_in-w.ensures, c.word_in-u.ensures, c.word_in-v.ensures) (by_numbers a.words.now a.numbers.now a.i)
