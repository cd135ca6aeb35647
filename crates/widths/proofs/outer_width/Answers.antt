use Rattle.std.specs.Prelude.{None}
use mathlib.Core.Path.{sym}
use Rattle.reader.specs.Reader.{style_in}
use Rattle.steps.specs.Sizing.{step_a}
use Rattle.steps.specs.Width.{outer_width}
use borrow.Author.Rules.{rules}
use Rattle.widths.proofs.outer_width.Goals as goal

pub returns : goal.returns
unfolding outer_width
returns c = let a = c.args in
    rw (c.outer_of.ensures (step_a (style_in a.r a.r.numbers.now) None) (sym c.both_across.ensures), c.side_margins.ensures, c.into_option.ensures)
