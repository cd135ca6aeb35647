use Rattle.reader.specs.Reader.{style_in, content_read}
use mathlib.Core.Path.{sym, ◌∙◌}
use Rattle.steps.specs.Sizing.{sizing_of, sized_by}
use borrow.Author.Rules.{rules}
use Rattle.sizing.proofs.sizing_of.Goals as goal

pub returns : goal.returns
unfolding sizing_of sized_by
returns c = let a = c.args in
    let s = style_in a.r a.r.numbers.now in
    let e = content_read a.r a.r.numbers.now ∙ sym c.flag-content.ensures in
    let k = sym c.ratio-ratio.ensures in
    rw (c.box_size-3.ensures s e k, c.box_size-2.ensures s e k, c.box_size.ensures s e k) (rw (c.max-max.ensures, c.min-min.ensures, c.size-size.ensures, c.add-both.ensures, c.resolve_or_zero-border.ensures, c.border.ensures, c.resolve_or_zero-padding.ensures, c.padding.ensures))
