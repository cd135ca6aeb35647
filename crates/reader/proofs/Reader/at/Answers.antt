use Rattle.reader.specs.Reader.{style_read}
use mathlib.Core.Path.{refl}
use borrow.Author.Rules.{rules}
use Rattle.reader.proofs.Reader.at.Goals as goal

pub returns : goal.returns
returns c = record { reads = refl; style = rw (c.word_in.ensures, c.word_in-2.ensures, c.word_in-3.ensures) (style_read c.args.words.now c.args.numbers.now c.args.j) }
