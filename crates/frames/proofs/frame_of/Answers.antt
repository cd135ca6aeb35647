use mathlib.Core.Path.{sym}
use Rattle.reader.specs.Reader.{style_in}
use Rattle.steps.specs.Edges.{frame_of}
use borrow.Author.Rules.{rules}
use Rattle.frames.proofs.frame_of.Goals as goal

pub returns : goal.returns
unfolding frame_of
returns c = let a = c.args in
    let s = style_in a.r a.r.numbers.now in
    rw (c.framed_by.ensures, c.unwrap_or.ensures, c.known_dimensions-known.ensures s (sym c.ratio.ensures), c.sizing_of-z.ensures)
