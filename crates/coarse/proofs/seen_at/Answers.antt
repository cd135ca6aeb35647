use mathlib.Core.Path.{sym, ap, ◌∙◌}
use Rattle.std.specs.Prelude.{Some}
use Rattle.coarse.specs.Above.{stacked, climbed}
use Rattle.coarse.proofs.Spans.{seen_none, seen-laid}
use Rattle.coarse.proofs.seen_at.Goals as goal

pub returns-then-not-is_laid : goal.returns-then-not-is_laid
returns-then-not-is_laid c = let a = c.args in
    ap Some c.no_box.ensures ∙ seen_none (climbed a.rows.now (stacked a.up.now a.d)) a.rows.now a.marks.now a.i (sym c.is_laid.ensures ∙ c.if-not-is_laid.true)

pub returns : goal.returns
returns c = let a = c.args in
    let laid = sym c.is_laid.ensures ∙ c.if-not-is_laid.false in
    c.seen_by.ensures ∙ rw (c.pixel_span.ensures, c.pixel_span-2.ensures) (seen-laid (climbed a.rows.now (stacked a.up.now a.d)) a.rows.now a.marks.now a.i laid)
