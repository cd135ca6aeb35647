use mathlib.Core.Path.{sym}
use Rattle.reader.specs.Reader.{style_in}
use Rattle.steps.specs.Probe.{probe_known}
use borrow.Author.Rules.{rules}
use Rattle.widths.proofs.probe_known.Goals as goal

pub returns : goal.returns
unfolding probe_known
returns c = let a = c.args in
    rw (c.known_dimensions.ensures (style_in a.r a.r.numbers.now) (sym c.ratio.ensures), c.sizing_without_height_basis.ensures)
