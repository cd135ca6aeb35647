use borrow.Author.Rules.{rules}
use Rattle.style.specs.Style.{word_at}
use Rattle.scans.specs.Scans.{some-two}
use Rattle.numbers.specs.Fields.{bad_field_at}
use Rattle.numbers.proofs.some_bad_length.Goals as goal

pub returns-then-some_bad_field : goal.returns-then-some_bad_field
returns-then-some_bad_field c = let a = c.args in
    let two = some-two (bad_field_at (word_at a.words.now a.i 2) (word_at a.words.now a.i 3) a.numbers.now a.i) 14 8 0 in
    rw (two, ← c.word_in-u.ensures, ← c.word_in-v.ensures, ← c.some_bad_field.ensures, c.if-some_bad_field.true)

pub returns : goal.returns
returns c = let a = c.args in
    let two = some-two (bad_field_at (word_at a.words.now a.i 2) (word_at a.words.now a.i 3) a.numbers.now a.i) 14 8 0 in
    rw (two, ← c.word_in-u.ensures, ← c.word_in-v.ensures, ← c.some_bad_field.ensures, c.if-some_bad_field.false) c.some_bad_field-2.ensures
